-- The cases of document 01, "Gates on paper": what a case is and when it holds, ways to prove one, and the table with its theorem; examples
-- of extra jobs behind a gate's (document 02, request 12), of needs that follow from others (request 5), of levels (request 4), of needs given
-- twice (request 6), of needs with numbers of two bytes (request 8) and of state numbers (request 11).
pub mod Case
pub mod Searched
pub mod Others
pub mod Computed
pub mod Chains
pub mod TooMany
pub mod Cases
pub mod Extras
pub mod Implied
pub mod Levels
pub mod RepeatedNeeds
pub mod WideNeeds
pub mod States
