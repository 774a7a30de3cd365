-- The rows of the jobs beyond each job and their laws (Beyond, Joining, Reaching), the list and its laws (Listing, Writing, ListingLaws), and the
-- answers (Answer), each module after those it cites. Assumes nothing.
pub mod Beyond
pub mod Joining
pub mod Reaching
pub mod Listing
pub mod Writing
pub mod ListingLaws
pub mod Answer
