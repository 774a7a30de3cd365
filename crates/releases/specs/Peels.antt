-- Peeling: what the functions of the order and the releases do. Assumes nothing.
use Rattle.std.specs.Prelude.{List, [], ◌∷◌, map, ℕ, ◌+◌, ◌-◌, eqb, set}
use Rattle.rules.specs.Basics.{choose, at}
use Rattle.jobset.specs.declared.Set.{Set}
use Rattle.jobset.specs.Sets.{members}
use Rattle.needrows.specs.declared.RowTakers.{RowTakers}
use Rattle.needrows.specs.Rows.{takers_of, left_at}
use Rattle.releases.specs.Codes.{raised, behind}

-- the members of a set, numbered from `first`
abbrev pub numbered : ℕ → Set → List ℕ
numbered first s = map (first +◌) (members s)

-- the takers that an iterator has left
abbrev pub left : RowTakers → List ℕ
left s = left_at s.rows.now s.giver s.last s.at s.here

-- the entries of l at the places xs, changed by f one after the other
unfoldable pub each : (ℕ → ℕ) → List ℕ → List ℕ → List ℕ
each f [] l = l
each f (x ∷ xs) l = each f xs (set l x (f (at l x)))

-- the codes (of a job that was peeled: its release), how many givers of each job are not peeled, the order, and how many jobs it has
pub record Peel : Type 0 where
  pub release : List ℕ
  pub waits : List ℕ
  pub order : List ℕ
  pub count : ℕ

abbrev pub peel_of : List ℕ → List ℕ → List ℕ → ℕ → Peel
peel_of release waits order count = record { release = release; waits = waits; order = order; count = count }

-- a giver of k, of which the slot is given, is peeled
unfoldable pub peel_need : ℕ → ℕ → Peel → Peel
peel_need slot k s =
    let left = at s.waits k - 1 in
    let last = eqb left 0 in
    record {
      release = set s.release k (raised (at s.release k) slot);
      waits = set s.waits k left;
      order = choose last (set s.order s.count k) s.order;
      count = choose last (s.count + 1) s.count;
    }

-- the same of some takers, one after the other
unfoldable pub peel_all : ℕ → List ℕ → Peel → Peel
peel_all slot [] s = s
peel_all slot (k ∷ ks) s = peel_all slot ks (peel_need slot k s)

-- a job is peeled: its code becomes its release
unfoldable pub released : ℕ → Peel → Peel
released job s = record {
  release = set s.release job (behind (at s.release job));
  waits = s.waits;
  order = s.order;
  count = s.count;
}

-- and its takers have one giver less
unfoldable pub peel_job : List ℕ → ℕ → ℕ → Peel → Peel
peel_job rows n job s = peel_all (behind (at s.release job) + 1) (takers_of rows n job) (released job s)
