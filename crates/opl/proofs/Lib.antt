pub mod CountLaws
pub mod JoinLaws
pub mod CallLaws
