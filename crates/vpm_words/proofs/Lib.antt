pub mod PieceLaws
pub mod WordLaws
pub mod RuleLaws
pub mod MoveLaws
pub mod ElementLaws
pub mod PartLaws
pub mod CaseLaws
