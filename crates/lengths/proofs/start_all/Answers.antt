-- `lengths::start_all` meets its contract. Assumes nothing.
use Rattle.std.proofs.Common.{◌<◌, refl, sym, ap, ◌∙◌, arith}
use mathlib.Core.List.{Memᴰ}
use Rattle.std.proofs.Common.{slice_set}
use Rattle.rules.specs.Sizes.{max_width, max_jobs}
use Rattle.jobset.specs.Members.{in_members}
use Rattle.layout.specs.Layout.{tables_in}
use Rattle.lengths.specs.Starting.{start-turn, start-end}
use Rattle.lengths.proofs.start_all.Goals as goal
use Rattle.lengths.proofs.start_all.Goals.{In-Some}

-- the place of a turn
turned : (c : In-Some) → (c.in-Some.p < max_width) × ((tables_in c.args.tables.now).who c.args.slot c.in-Some.p < max_jobs)
turned c = c.loop-p.invariant.inside c.in-Some.p (rw c.in-Some.ensures.steps (Memᴰ.head refl))

pub loop-p-init : goal.loop-p-init
loop-p-init c = record {
  inside = λ p m. c.requires.1 p ((in_members c.args.places p).0 (rw c.into_iter-p-iterator.ensures at m)).1;
  same = rw c.into_iter-p-iterator.ensures refl;
}

pub job_at-requires : goal.job_at-requires
job_at-requires c = (c.requires.0, (turned c).0)

pub bounds-starts-job_at : goal.bounds-starts-job_at
bounds-starts-job_at c = omega (arith, c.job_at.ensures, (turned (goal.at.bounds-starts-job_at c).In-Some).1)

pub loop-p-preserved : goal.loop-p-preserved
loop-p-preserved c =
    let l = c.loop-p in
    let e = c.in-Some.ensures.steps in record {
      inside = λ p m. l.invariant.inside p (rw e (Memᴰ.tail m));
      same = start-turn ((tables_in c.args.tables.now).who c.args.slot) c.args.slot l.p-iterator.rest c.next.new.self.rest c.in-Some.p l.starts _ e
          (ap (λ i. slice_set l.starts i c.args.slot) c.job_at.ensures) ∙ l.invariant.same;
    }

pub returns : goal.returns
returns c =
    let l = c.loop-p in
    sym (start-end _ c.args.slot l.p-iterator.rest l.starts c.in-None.ensures.steps.0) ∙ l.invariant.same
