-- `printing::lines::print` meets its contract. `all` says whether each line so far has slots. Assumes nothing.
use Rattle.std.proofs.Common.{◌≡◌, sym, ap, ◌∙◌, not, eqb, ℕ, ◌+◌, ◌*◌, ◌++◌, length, drop, arith}
use Rattle.std.specs.Slice.Iter.{chunks_exact_rest}
use Rattle.std.proofs.lemmas.List.{length-append}
use Rattle.rules.specs.Basics.{at}
use Rattle.laws.specs.Loops.{all_yes, all-no, all_end}
use Rattle.small.specs.Lines.{all_agreed}
use Rattle.printing.proofs.Chunks.{three-in, third, rest-is, threes-end}
use Rattle.printing.proofs.lines.print.Goals as goal
use Rattle.printing.proofs.lines.print.Goals.{In-Some, After-print_line, at-After-print_line}

-- what is left of the list begins with this line
split : (c : In-Some) → drop (3 * length c.loop-line.yielded) c.args.list.now ≡ c.in-Some.line.now ++ chunks_exact_rest c.next.new.self
split c = c.loop-line.invariant.1 ∙ c.in-Some.ensures.steps.1.0

long : (c : In-Some) → length c.in-Some.line.now ≡ 3
long c = c.in-Some.ensures.steps.1.1 ∙ c.loop-line.invariant.2

-- whether it has slots
told : (c : After-print_line) → c.print_line.result ≡ not (eqb (at c.args.list.now (3 * length c.loop-line.yielded + 2)) 0)
told c =
    let w = (at-After-print_line c).In-Some in
    c.print_line.ensures ∙ ap (λ (k : ℕ). not (eqb k 0)) (third c.args.list.now _ _ (length c.loop-line.yielded) (split w) (long w))

pub loop-line-preserved-then-not-print_line : goal.loop-line-preserved-then-not-print_line
loop-line-preserved-then-not-print_line c =
    let p = (goal.at.loop-line-preserved-then-not-print_line c).After-print_line in
    let w = (at-After-print_line p).In-Some in (
      simp length-append
          (all-no c.loop-line.invariant.0
          (three-in c.args.list.now _ _ (length c.loop-line.yielded) (split w) (long w)) (sym (told p) ∙ c.if-not-print_line.true)),
      simp length-append (rest-is c.args.list.now _ _ (length c.loop-line.yielded) (split w) (long w)),
      c.in-Some.ensures.steps.0 ∙ c.loop-line.invariant.2,
    )

pub loop-line-preserved : goal.loop-line-preserved
loop-line-preserved c =
    let p = (goal.at.loop-line-preserved c).After-print_line in
    let w = (at-After-print_line p).In-Some in (
      simp length-append
          (all_yes c.loop-line.invariant.0
          (three-in c.args.list.now _ _ (length c.loop-line.yielded) (split w) (long w)) (sym (told p) ∙ c.if-not-print_line.false)),
      simp length-append (rest-is c.args.list.now _ _ (length c.loop-line.yielded) (split w) (long w)),
      c.in-Some.ensures.steps.0 ∙ c.loop-line.invariant.2,
    )

pub returns : goal.returns
unfolding all_agreed
returns c =
    let i = c.loop-line.invariant in
    all_end i.0 (threes-end c.args.list.now (length c.loop-line.yielded) (omega (arith, ap length i.1, c.in-None.ensures.steps.1.0, i.2)))
