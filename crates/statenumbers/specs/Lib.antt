-- The job file and the planned table read once more, and the answer of the call.
pub mod Answer
