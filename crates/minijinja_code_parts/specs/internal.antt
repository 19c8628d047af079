-- What crates of this repository say to each other, and users need not believe.
pub mod AtEnclosingLoop
pub mod EnclosingLoops
pub mod IfParts
pub mod Loops
pub mod MacroMarks
pub mod Macros
