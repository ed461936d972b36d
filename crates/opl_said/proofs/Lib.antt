pub mod NumberLaws
pub mod MemberLaws
pub mod FormLaws
pub mod SaidLaws
pub mod HeldLaws
