-- The places of a set by job number (Listing), the numbers with so many binary digits 1 by falling size (Numbers), and what a number takes of a row
-- (Picking). Assumes nothing.
pub mod Listing
pub mod Numbers
pub mod Picking
