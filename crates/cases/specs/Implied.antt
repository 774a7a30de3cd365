-- Needs that follow from others (document 02, request 5), by computing, of files in bytes: the request's own three needs; a path through a need that is listed
-- itself; each need twice; needs with no such path beside them; and what is left when the listed ones are struck. Assumes nothing.
use Rattle.std.specs.Prelude.{◌≡◌, refl, List, [], ◌∷◌, ℕ}
use Rattle.rules.specs.Basics.{filter}
use Rattle.rules.specs.Fields.{Answer, refused, got, fields_but}
use Rattle.rules.specs.Needs.{Need}
use Rattle.rules.specs.Implied.{reached_by, reached, reachesb, impliedb, implied_takers, implied_from, implied_needs, implied_in, pair_numbers, need_at, strike}
use Rattle.cases.specs.Case.{file_of}
use Rattle.cases.specs.Computed.{file_bytes, file_questions, circle_question}

-- what is computed with
unfoldable pub list_questions : List ℕ → Answer (List Need)
unfolding file_bytes file_questions circle_question implied_in implied_needs implied_from implied_takers impliedb reachesb reached reached_by filter
list_questions = implied_in

-- the three needs of the request, the last between the others, of three jobs
abbrev three_needs : List ℕ
three_needs = file_of 3 ((1, 2) ∷ (1, 3) ∷ (2, 3) ∷ []) 3

-- "1-2, 2-3 and also 1-3": 1-3 is listed
pub one-listed : implied_in three_needs ≡ got ((0, 2) ∷ [])
unfolding list_questions
one-listed = refl

-- "Print giver and taker .. as `1 3`"
pub one-printed : pair_numbers ((0, 2) ∷ []) ≡ 1 ∷ 3 ∷ []
unfolding pair_numbers
one-printed = refl

-- struck, it leaves the bytes of the file with the other two
pub one-struck : strike ((0, 2) ∷ []) three_needs ≡ file_of 3 ((1, 2) ∷ (2, 3) ∷ []) 3
unfolding file_bytes file_questions strike need_at fields_but
one-struck = refl

-- "in rising order of giver, then taker": 1-4, which has a path over job 3, comes before 2-3, which has one over job 5
pub by-giver : implied_in (file_of 5 ((2, 3) ∷ (1, 4) ∷ (1, 3) ∷ (3, 4) ∷ (2, 5) ∷ (5, 3) ∷ []) 5) ≡ got ((0, 3) ∷ (1, 2) ∷ [])
unfolding list_questions
by-giver = refl

-- a chain of four with all needs there can be: 1-4 has paths through 1-3 and 2-4, which are listed too
pub three-listed : implied_in (file_of 4 ((2, 4) ∷ (1, 4) ∷ (3, 4) ∷ (2, 3) ∷ (1, 3) ∷ (1, 2) ∷ []) 4) ≡ got ((0, 2) ∷ (0, 3) ∷ (1, 3) ∷ [])
unfolding list_questions
three-listed = refl

-- each of the three needs twice: 1-3 is listed once, and both of its fields are struck (document 02, request 6)
abbrev three_needs_twice : List ℕ
three_needs_twice = file_of 3 ((1, 2) ∷ (1, 3) ∷ (2, 3) ∷ (1, 2) ∷ (1, 3) ∷ (2, 3) ∷ []) 3

pub listed-once : implied_in three_needs_twice ≡ got ((0, 2) ∷ [])
unfolding list_questions
listed-once = refl

pub struck-together : strike ((0, 2) ∷ []) three_needs_twice ≡ file_of 3 ((1, 2) ∷ (2, 3) ∷ (1, 2) ∷ (2, 3) ∷ []) 3
unfolding file_bytes file_questions strike need_at fields_but
struck-together = refl

-- two ways from 1 to 4, each of two needs: all needs stand by themselves
pub none-listed : implied_in (file_of 4 ((1, 2) ∷ (1, 3) ∷ (2, 4) ∷ (3, 4) ∷ []) 4) ≡ got []
unfolding list_questions
none-listed = refl

-- a circle is refused, though 1-3 has a path beside it
pub circle-refused : implied_in (file_of 3 ((1, 2) ∷ (2, 3) ∷ (1, 3) ∷ (3, 1) ∷ []) 3) ≡ refused 11
unfolding list_questions
circle-refused = refl
