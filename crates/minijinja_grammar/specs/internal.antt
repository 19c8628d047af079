-- What crates of this repository say to each other, and users need not believe.
pub mod Keywords
pub mod Forms
pub mod ExprForms
pub mod TargetForms
pub mod StmtForms
pub mod TemplateForms
pub mod Whole
pub mod Climbing
