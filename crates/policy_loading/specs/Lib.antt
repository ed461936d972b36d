pub mod LoadDone
