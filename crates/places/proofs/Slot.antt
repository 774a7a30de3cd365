-- One slot of the search over places: its candidates, the sets that it tries, and what each of them is by membership. Assumes nothing.
-- Its definitions: specs/Slot.antt.
use Rattle.std.specs.Prelude.{ℕ, ◌^◌, length}
use Rattle.std.proofs.Common.{sym, ap, ◌∙◌}
use mathlib.Core.List.{Memᴰ}
use Rattle.jobset.specs.declared.Set.{Set}
use Rattle.jobset.specs.Sets.{member, Subset}
use Rattle.jobset.specs.Membership.{in-union}
use Rattle.places.specs.Tables.{Tables}
use Rattle.places.specs.Rows.{chosen-in, in-places, picks, tried-number}
use Rattle.places.specs.Slot.{Candidates, candidates_at, near_at, able_of, row_at, most_of, tries_at, candidates-held, in-row-at}

-- ---- whatever the state: of the places of the slot

pub tries-held : (A : Tables) (cap s : ℕ) (done ran S : Set) → Memᴰ S (tries_at A cap s done ran) → Subset S (A.held s)
unfolding tries_at Subset able_of
tries-held A cap s done ran S w p m =
    let r = tried-number (near_at A s ran) (row_at A s c) (most_of cap c) (2 ^ length (row_at A s c)) S w in
    let z = (in-places (picks (row_at A s c) r.number) p).0 (ap (λ (X : Set). member X p) (sym r.set_is) ∙ m) in
    candidates-held A s done ran p ((in-union c.forced c.tied p).0 ((in-row-at A s c p).0 (chosen-in (row_at A s c) (record { bits = r.number }) p z)).1)
  where
    c : Candidates
    c = candidates_at A s done ran
