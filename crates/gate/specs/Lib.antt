-- The numbers that the forms for C give (Numbers), and their laws. Assumes nothing.
pub mod Numbers
pub mod Laws
