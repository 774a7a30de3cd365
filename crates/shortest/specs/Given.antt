-- What the search over places is given, said with the rules; its states, and the states over lists that they stand for. Assumes nothing.
use Rattle.std.specs.Prelude.{◌≡◌, ◌⊎◌, ◌↔◌, true, ℕ, ◌+◌, ◌≤◌, ◌<◌, ltb}
use Rattle.std.proofs.Common.{inl, inr, ⊎_elim, arith}
use mathlib.Core.List.{List, Memᴰ}
use Rattle.std.proofs.Math.Decide.{dec_lt}
use Rattle.rules.specs.Basics.{at, filter}
use Rattle.rules.specs.Needs.{Gives}
use Rattle.rules.specs.Program.{Fits, Kept}
use Rattle.laws.specs.Tests.{T-ltb}
use Rattle.laws.specs.Lists.{filter-mem, filter-mem⁻¹, filter-rising}
use Rattle.jobset.specs.declared.Set.{Set}
use Rattle.jobset.specs.Sets.{is_subset}
use Rattle.dominance.specs.States.{Instance, State}
use Rattle.places.specs.Seats.{On, subset-on}
use Rattle.places.specs.Windows.{Windows, held, held_before, in_held, in-held-before, held-rising, Room, Seats, Leads}
use Rattle.places.specs.Tables.{Tables, Due, Shows, ShowsDue}

-- the windows bound the starts of every list that keeps the rules and fits: it starts each job in its window, with its tail behind it.
pub record Bounds (W : Windows) (limit : ℕ) : Type 0 where
  pub early : (u : List ℕ) → Kept (Gives W.needs) (at u) → (i : ℕ) → i < W.n → W.r i ≤ at u i
  pub timely : (u : List ℕ) (C : ℕ) → C ≤ limit → Kept (Gives W.needs) (at u) → Fits W.n C u
      → (i : ℕ) → i < W.n → (at u i < W.d i) × (at u i + W.θ i < C)

-- what the search of C slots asks of its tables: they show windows, needs and places; and each job has room in C slots
pub record Ready (W : Windows) (Z : Seats W) (C : ℕ) (A : Tables) : Type 0 where
  pub room : Room W C
  pub shows : Shows W Z C A
  pub due : ShowsDue W Z C A

-- what the search of one length is given: windows and places, the most jobs of a slot, the length C within the limit, and tables
pub record Given : Type 0 where
  pub W : Windows
  pub Z : Seats W
  pub cap : ℕ
  pub C : ℕ
  pub limit : ℕ
  pub A : Tables
  pub in-limit : C ≤ limit
  pub leads : Leads W
  pub bounds : Bounds W limit
  pub ready : Ready W Z C A

-- the jobs that may start in slot s of C
abbrev pub may_start : Windows → ℕ → ℕ → List ℕ
may_start W C s = filter (λ i. ltb (s + W.θ i) C) (held W s)

pub may-start : (W : Windows) (C s i : ℕ) → Memᴰ i (may_start W C s) ↔ (Memᴰ i (held W s) × (s + W.θ i < C))
may-start W C s i = (
  λ m. let w = filter-mem⁻¹ (λ i. ltb (s + W.θ i) C) (held W s) i m in (w.0, (T-ltb (s + W.θ i) C).0 w.1),
  λ w. filter-mem (λ i. ltb (s + W.θ i) C) (held W s) i w.0 ((T-ltb (s + W.θ i) C).1 w.1),
)

-- the search over lists
abbrev pub within : Given → Instance
within G = record {
  n = G.W.n;
  needs = G.W.needs;
  cap = G.cap;
  C = G.C;
  unplaced = G.limit;
  candidates = may_start G.W G.C;
  needs-in = G.leads.needs-in;
  roof = G.in-limit;
  rising = λ s. filter-rising (λ i. ltb (s + G.W.θ i) G.C) (held G.W s) (held-rising G.W s);
  candidates-in = λ s j m. ((in_held G.W s j).0 ((may-start G.W G.C s j).0 m).0).0;
}

-- a state of the search over places with `left` slots left, and the state over lists that it stands for: before slot s, where of the jobs
-- of the slot before `done` are those that have run, and `ran` those that ran there; what was due earlier is done
pub record At (G : Given) (left : ℕ) : Type 0 where
  pub s : ℕ
  pub sum : left + s ≡ G.C
  pub t : List ℕ
  pub done : Set
  pub ran : Set
  pub state : State (within G) s t
  pub closed : (i : ℕ) → i < G.W.n → (G.W.d i < s) ⊎ (G.C < s + G.W.θ i) → at t i < s
  pub done-is : On G.Z.place (held_before G.W s) done (λ i. at t i < s)
  pub ran-is : On G.Z.place (held_before G.W s) ran (λ i. at t i + 1 ≡ s)

-- no job is late: what has its deadline at slot s or before, or no room for its tail behind s, is done
abbrev pub InTime : Given → ℕ → List ℕ → Type 0
InTime G s t = (i : ℕ) → i < G.W.n → (G.W.d i ≤ s) ⊎ (G.C ≤ s + G.W.θ i) → at t i < s

module _ {G : Given} {left : ℕ} (x : At G left) where
  abbrev W : Windows
  W = G.W

  -- a job that has started was in its window
  pub started : (i : ℕ) → i < W.n → at x.t i < x.s → (W.r i ≤ at x.t i) × (at x.t i < W.d i)
  started i l p = let w = (in_held W (at x.t i) i).0 ((may-start W G.C (at x.t i) i).0 (x.state.inside i l p)).0 in (w.1, w.2)

  -- a job that ran in the slot before stands in it
  pub ran-held : (i : ℕ) → i < W.n → at x.t i + 1 ≡ x.s → Memᴰ i (held_before W x.s)
  ran-held i l e = let w = started i l (omega arith) in (in-held-before W x.s i).1 (l, omega (arith, w.0), omega (arith, w.1))

  -- the test for late jobs: only those that are due just now need be asked
  pub time-test : (is_subset (G.A.due x.s) x.done ≡ true) ↔ InTime G x.s x.t
  time-test = (
    λ e i l o. go e i l o (dec_lt (W.d i) x.s) (dec_lt G.C (x.s + W.θ i)),
    λ f. test.1 (λ i m o. f i ((in-held-before W x.s i).0 m).0 (⊎_elim (λ e. inl (omega arith)) (λ e. inr (omega arith)) o.0)),
  )
    where
      test : (is_subset (G.A.due x.s) x.done ≡ true) ↔ ((i : ℕ) → Memᴰ i (held_before W x.s) → Due W G.C x.s i → at x.t i < x.s)
      test = subset-on (G.ready.due.due-is x.s (omega (arith, x.sum))) x.done-is

      go : is_subset (G.A.due x.s) x.done ≡ true → (i : ℕ) → i < W.n → (W.d i ≤ x.s) ⊎ (G.C ≤ x.s + W.θ i)
          → Dec (W.d i < x.s) → Dec (G.C < x.s + W.θ i) → at x.t i < x.s
      go e i l o (yes a) b = x.closed i l (inl a)
      go e i l o (no a) (yes b) = x.closed i l (inr b)
      go e i l o (no a) (no b) =
          let r = G.ready.room.holds i l in
          let q = G.ready.room.behind i l in
          test.0 e i ((in-held-before W x.s i).1 (l, ⊎_elim (λ z. omega arith) (λ z. omega arith) o, omega arith))
          (⊎_elim (λ z. inl (omega arith)) (λ z. inr (omega arith)) o, omega arith, omega arith)
