-- `next` gives the first taker that is still to come: of the word at hand, or where that has none left, of the next word. Assumes nothing.
use Rattle.std.proofs.Common.{◌≡◌, ℕ, ◌+◌, ◌*◌, ◌/◌, ◌%◌, ◌<◌, List, [], sym, ◌∙◌, arith}
use Rattle.jobset.specs.declared.Set.{Set}
use Rattle.jobset.specs.Sets.{members}
use Rattle.jobset.specs.Members.{first-below}
use Rattle.needrows.specs.Rows.{row_bytes, word_bytes, word_bits, word_from, word_at, left_at}
use Rattle.needrows.specs.Takers.{next-word, no-word}
use Rattle.needrows.proofs.RowTakersIterator.next.Goals as goal

-- where no member is left, the next word comes to hand
next-left : (rows : List ℕ) (g last at : ℕ) (here : Set) → members here ≡ [] → last % word_bytes ≡ 0 → at % word_bytes ≡ 0 → at < last
    → left_at rows g last (at + word_bytes) (word_from rows (row_bytes * g + (at + word_bytes))) ≡ left_at rows g last at here
unfolding word_from word_at
next-left rows g last at here none l a h =
    let e : (at + word_bytes) / word_bytes ≡ at / word_bytes + 1 = omega arith in
    let f : 8 * (at + word_bytes) ≡ word_bits * (at / word_bytes + 1) = omega arith in
    let i : row_bytes * g + (at + word_bytes) ≡ row_bytes * g + word_bytes * (at / word_bytes + 1) = omega arith in
    rw (e, f, i) (sym (next-word rows g (last / word_bytes + 1) (at / word_bytes + 1) (8 * at) here none (omega arith)))

pub overflow_add-result : goal.overflow_add-result
overflow_add-result c =
    let s = c.loop-member.self in
    omega (arith, first-below s.here c.in-Some.member _ c.in-Some.ensures, s.at_in, s.last_in_row)

pub returns-then-self-clause-steps : goal.returns-then-self-clause-steps
returns-then-self-clause-steps c =
    let s = c.loop-member.self in
    let e = no-word s.rows.now s.giver (s.last / word_bytes + 1) (s.at / word_bytes + 1) (8 * s.at) s.here c.in_default.ensures (omega arith) in
    (sym c.loop-member.invariant ∙ e, e)

pub loop-member-preserved : goal.loop-member-preserved
loop-member-preserved c =
    let s = c.loop-member.self in
    let more : s.at < s.last = omega (arith, s.at_in) in
    rw c.eight_bytes-self.ensures (
    next-left s.rows.now s.giver s.last s.at s.here c.in_default.ensures s.last_whole s.at_whole more ∙ c.loop-member.invariant
    )
