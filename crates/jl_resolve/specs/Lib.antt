-- What the code answers, beside the definitions of jl_types.
pub mod Answers
pub mod Constancy
