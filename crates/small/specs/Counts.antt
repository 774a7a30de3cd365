-- How many small gates there are, the first lines that are printed, and the slots of the last, by computing. Assumes nothing.
use Rattle.std.specs.Prelude.{◌≡◌, refl, Bool, not, ◌&&◌, List, [], ◌∷◌, ◌++◌, ℕ, ◌+◌, ◌*◌, ◌^◌, length}
use Rattle.std.proofs.Common.{ap, ap₂, ◌∙◌, arith, length-append}
use Rattle.std.proofs.Math.Option.{some}
use Rattle.std.proofs.lemmas.List.{length-map}
use Rattle.rules.specs.Basics.{choose, imp, all, filter, range, tabulate, joined, largest}
use Rattle.rules.specs.Needs.{givers_marked, rounds, circle_free}
use Rattle.rules.specs.Program.{slots, all₂, keptb}
use Rattle.rules.specs.Preference.{prefixed, start_lists}
use Rattle.rules.specs.SmallGates.{bit, need_bit, pairs, needs_of, gateb, gates, smaller, least_of, fewest, GateLine, gate_line, gate_lines, line_numbers, small_gates}
use Rattle.laws.specs.Tests.{tests, T_and, bool-ext}
use Rattle.laws.specs.Lists.{filter_same}
use Rattle.laws.specs.Counting.{range-below}
use Rattle.laws.specs.Writing.{length-joined}
use Rattle.laws.specs.SmallGates.{no_self}

-- ---- "There are 1, 3, 25 and 543 of them"

-- the test of a number, with what is quickly seen first: whether a job needs itself
unfoldable pub quickb : ℕ → ℕ → Bool
quickb n m = all (λ i. not (bit m (need_bit n (i, i)))) (range n 0) && gateb n m

quick-same : (n m : ℕ) → gateb n m ≡ quickb n m
unfolding quickb
quick-same n m = bool-ext (gateb n m) (quickb n m)
    (λ t. (T_and (all (λ i. not (bit m (need_bit n (i, i)))) (range n 0)) (gateb n m)).1 (simp tests (λ i w b. no_self n m t i ((range-below n i).0 w) b), t))
    (λ t. ((T_and (all (λ i. not (bit m (need_bit n (i, i)))) (range n 0)) (gateb n m)).0 t).1)

quick-gates : (n : ℕ) → gates n ≡ filter (quickb n) (range (2 ^ (n * n)) 0)
unfolding gates
quick-gates n = filter_same (gateb n) (quickb n) (range (2 ^ (n * n)) 0) (λ m _. quick-same n m)

pub one-job : length (gates 1) ≡ 1
unfolding quickb gateb needs_of pairs need_bit bit circle_free rounds givers_marked tabulate range filter all imp choose
one-job = ap length (quick-gates 1)

pub two-jobs : length (gates 2) ≡ 3
unfolding quickb gateb needs_of pairs need_bit bit circle_free rounds givers_marked tabulate range filter all imp choose
two-jobs = ap length (quick-gates 2)

pub three-jobs : length (gates 3) ≡ 25
unfolding quickb gateb needs_of pairs need_bit bit circle_free rounds givers_marked tabulate range filter all imp choose
three-jobs = ap length (quick-gates 3)

pub four-jobs : length (gates 4) ≡ 543
unfolding quickb gateb needs_of pairs need_bit bit circle_free rounds givers_marked tabulate range filter all imp choose
four-jobs = ap length (quick-gates 4)

-- ---- the lines

-- a line for each
lines : (n : ℕ) → length (gate_lines n) ≡ length (gates n)
unfolding gate_lines
lines n = length-map (gates n) (gate_line n)

pub all_lines : length small_gates ≡ 572
unfolding small_gates
all_lines =
    length-append (gate_lines 1) (gate_lines 2 ++ (gate_lines 3 ++ gate_lines 4))
    ∙ ap₂ ◌+◌ (lines 1 ∙ one-job) (length-append (gate_lines 2) (gate_lines 3 ++ gate_lines 4)
    ∙ ap₂ ◌+◌ (lines 2 ∙ two-jobs) (length-append (gate_lines 3) (gate_lines 4) ∙ ap₂ ◌+◌ (lines 3 ∙ three-jobs) (lines 4 ∙ four-jobs)))

-- three numbers each
line-entries : (ls : List GateLine) → length (joined line_numbers ls) ≡ 3 * length ls
unfolding line_numbers
line-entries ls = length-joined line_numbers 3 (λ l. refl) ls

pub all-entries : length (joined line_numbers small_gates) ≡ 1716
all-entries = omega (arith, line-entries small_gates, all_lines)

abbrev line : ℕ → ℕ → ℕ → GateLine
line n m s = record { jobs = n; number = m; fewest-slots = some s }

-- the first four lines: `1 0 1`, `2 0 1`, `2 2 2`, `2 4 2`
pub first-lines : gate_lines 1 ++ gate_lines 2 ≡ line 1 0 1 ∷ line 2 0 1 ∷ line 2 2 2 ∷ line 2 4 2 ∷ []
unfolding gate_lines fewest least_of smaller start_lists prefixed keptb all₂ slots largest gates gateb needs_of pairs need_bit bit circle_free rounds givers_marked
    tabulate range filter all imp choose
first-lines = refl

-- four jobs in a row and every need that follows: `4 29456 4`
pub last-fewest : fewest 4 (needs_of 4 29456) ≡ some 4
unfolding fewest least_of smaller start_lists prefixed keptb all₂ slots largest needs_of pairs need_bit bit range filter all imp choose
last-fewest = refl
