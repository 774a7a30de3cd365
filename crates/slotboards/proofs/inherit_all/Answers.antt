-- `slotboards::inherit_all` meets its contract. Assumes nothing.
use Rattle.std.proofs.Common.{refl, sym, ap, ◌∙◌, ℕ, List}
use mathlib.Core.List.{Memᴰ}
use Rattle.jobset.specs.Sets.{members}
use Rattle.jobset.specs.Members.{in_members}
use Rattle.layout.specs.Layout.{tables_in}
use Rattle.slotboards.specs.Turns.{inherit-below}
use Rattle.slotboards.specs.Placing.{Filling, filling, inherit, leave, each, inherited, others_of}
use Rattle.slotboards.proofs.inherit_all.Goals as goal

pub loop-p-init : goal.loop-p-init
loop-p-init c =
    let p = c.requires in
    rw c.into_iter-p-iterator.ensures (p.3, λ q m. p.1 q ((in_members c.args.jobs q).0 m).1, refl, refl)

pub inherit-z-requires : goal.inherit-z-requires
inherit-z-requires c =
    let l = c.loop-p in
    let p = c.requires in
    let w = l.invariant.1 c.in-Some.p (rw c.in-Some.ensures.steps (Memᴰ.head refl)) in
    (p.0, w.0, w.1, p.2, l.invariant.0)

pub loop-p-preserved : goal.loop-p-preserved
unfolding each
loop-p-preserved c =
    let l = c.loop-p in
    let a = c.args in
    let A = tables_in a.tables.now in
    let e = c.inherit-z.ensures in
    let s = c.in-Some.ensures.steps in
    let left = members c.next.new.self.rest in
    let now = filling l.z.free l.boards in
    let b = inherit-below A a.slot a.last c.in-Some.p now l.invariant.0 in (
      rw (ap (λ (w : Filling). w.boards) e.0) b,
      λ q m. l.invariant.1 q (rw s (Memᴰ.tail m)),
      ap (each (inherit A a.slot a.last) left) e.0 ∙ ap (λ (ps : List ℕ). each (inherit A a.slot a.last) ps now) (sym s) ∙ l.invariant.2,
      ap (each (leave A a.slot a.last) left) e.1 ∙ ap (λ (ps : List ℕ). each (leave A a.slot a.last) ps l.z.others) (sym s) ∙ l.invariant.3,
    )

pub returns : goal.returns
unfolding inherited others_of each
returns c =
    let l = c.loop-p in
    let a = c.args in
    let A = tables_in a.tables.now in
    let s = sym c.in-None.ensures.steps.0 in (
      ap (λ (ps : List ℕ). each (inherit A a.slot a.last) ps (filling l.z.free l.boards)) s ∙ l.invariant.2,
      ap (λ (ps : List ℕ). each (leave A a.slot a.last) ps l.z.others) s ∙ l.invariant.3,
    )
