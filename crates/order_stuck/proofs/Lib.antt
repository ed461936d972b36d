mod WaitLaws
mod LowestLaws
mod Walk
mod Words
