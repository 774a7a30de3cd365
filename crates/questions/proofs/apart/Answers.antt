-- `questions::apart` meets its contract: before each turn no two of the rows so far share a cell, and their cells are taken. Assumes nothing.
use Rattle.std.proofs.Common.{◌≡◌, ◌<◌, ◌∙◌, sym, ap, ap₂, ℕ, not, length, arith, rules}
use Rattle.std.proofs.lemmas.List.{length-append}
use Rattle.std.proofs.lemmas.Slice.Zip.{zip_turn, zip_end}
use Rattle.rules.specs.Sizes.{max_limit}
use Rattle.rules.specs.Basics.{at}
use Rattle.laws.specs.Loops.{all_start, all_yes, all-no, all_end, all-failed}
use Rattle.jobset.specs.Sets.{member, set_at}
use Rattle.questions.specs.Questions.{shared}
use Rattle.questions.specs.QuestionLaws.{apart-is, none-taken, more-taken}
use Rattle.questions.proofs.apart.Goals as goal
use Rattle.questions.proofs.apart.Goals.{In-Some, After-from-number, at-After-from-number, After-has, at-After-has}

-- this turn's start and board are those of the next row
turned : (c : In-Some) →
    let a = c.args in
    let i = length c.loop-start.yielded in
    (i < length a.start.now) × (c.in-Some.start.now ≡ at a.start.now i) × (c.in-Some.board.now ≡ at a.board.now i)
turned c =
    let a = c.args in
    let t = zip_turn a.start.now a.board.now c.loop-start.yielded c.into_iter-start-iterator.result c.loop-start.start-iterator c.next.new.self
    c.next.result (search rules) (search rules) c.loop-start.yielded_by _ c.in-Some.is c.next.ensures.steps in
    (t.0, t.2 0, t.3 0)

-- the slot and the number, and their bounds
cell : (c : After-from-number) →
    let a = c.args in
    let i = length c.loop-start.yielded in
    (i < length a.start.now) × (c.from-slot.result ≡ at a.start.now i) × (c.from-number.result ≡ at a.board.now i)
    × (at a.start.now i < max_limit) × (at a.board.now i < 64)
cell c =
    let t = turned (at-After-from-number c).In-Some in
    let b = c.requires.1 _ t.0 in
    (t.0, c.from-slot.ensures ∙ t.1, c.from-number.ensures ∙ t.2, b.0, b.1)

-- whether it is taken
told : (c : After-has) → c.has.result ≡ shared c.args.start.now c.args.board.now (length c.loop-start.yielded)
unfolding shared
told c =
    let p = cell (at-After-has c).After-from-number in
    c.has.ensures ∙ ap₂ (λ (s k : ℕ). member (set_at c.loop-start.taken s) k) p.1 p.2 ∙ c.loop-start.invariant.1.cells _ _ p.3 p.4

pub loop-start-init : goal.loop-start-init
loop-start-init c = (all_start _ _, none-taken _ _)

pub returns-then-has : goal.returns-then-has
returns-then-has c =
    let w = (goal.at.returns-then-has c).After-has in
    all-failed (all-no c.loop-start.invariant.0 (cell (at-After-has w).After-from-number).0 (ap not (sym (told w) ∙ c.if-has.true))) ∙ apart-is _ _ _

pub loop-start-preserved : goal.loop-start-preserved
loop-start-preserved c =
    let w = (goal.at.loop-start-preserved c).After-has in
    let p = cell (at-After-has w).After-from-number in (
      simp length-append (all_yes c.loop-start.invariant.0 p.0 (ap not (sym (told w) ∙ c.if-has.false))),
      simp length-append (rw (c.with.ensures, p.1, p.2) (more-taken _ _ _ _ p.3 p.4 c.loop-start.invariant.1)),
    )

pub returns : goal.returns
returns c =
    let a = c.args in
    let e = zip_end a.start.now a.board.now c.loop-start.yielded c.into_iter-start-iterator.result c.loop-start.start-iterator c.next.new.self
    c.next.result (search rules) (search rules) c.loop-start.yielded_by c.in-None.is c.next.ensures.steps in
    all_end c.loop-start.invariant.0 (omega (arith, e, c.requires.0)) ∙ apart-is _ _ _
