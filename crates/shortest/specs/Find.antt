-- The search over places, read as start lists, finds the best list of each state. Assumes nothing.
use Rattle.std.specs.Prelude.{◌≡◌, ◌⊎◌, ◌↔◌, Bool}
use Rattle.std.proofs.Math.Path.{refl}
use Rattle.std.proofs.Common.{sym, ap, ◌∙◌, inl, inr, ⊎_elim, arith}
use Rattle.std.proofs.Math.Bool.{true, false}
use mathlib.Core.List.{List, [], ◌∷◌, map, Memᴰ}
use Rattle.std.proofs.Math.Option.{Option, none, some}
use Prim.Native.Nat.{ℕ, zero, suc, ◌+◌, ◌<◌}
use Rattle.std.proofs.Math.Decide.{dec_lt}
use Rattle.rules.specs.Basics.{choose, at}
use Rattle.rules.specs.Needs.{Gives}
use Rattle.rules.specs.Program.{Fits, Kept}
use Rattle.rules.specs.Boards.{Runs}
use Rattle.laws.specs.Preference.{Best, Best-iff}
use Rattle.jobset.specs.declared.Set.{Set}
use Rattle.jobset.specs.Sets.{empty, is_subset}
use Rattle.jobset.specs.Tests.{present}
use Rattle.dominance.specs.Tries.{or_else, first}
use Rattle.dominance.specs.States.{State, Good, placed-best, start, start-state, start-good}
use Rattle.dominance.specs.Placing.{place, Spot, now, earlier, waits, spot}
use Rattle.dominance.proofs.Maximal.{maximal-slot}
use Rattle.places.specs.Seats.{OfPlaces, On, on-iff, on-empty, on-union, jobs_of, set_of, set-of-is, set-of-jobs}
use Rattle.places.specs.Windows.{Windows, held, in_held, Seats}
use Rattle.places.specs.Slot.{tries_at}
use Rattle.places.specs.Model.{Plan, no_plan, finished, slot_then, try_all, done_after, find, placed, list_of}
use Rattle.shortest.specs.Given.{Given, may-start, within, At, InTime, time-test}
use Rattle.shortest.specs.InSlot.{next-is}
use Rattle.shortest.specs.Tried.{tries-maximal}
use Rattle.shortest.specs.Starts.{plan_of, tries-places}

-- ---- a plan as a start list

pub list-yes : (W : Windows) (π : ℕ → ℕ) (s : ℕ) (t : List ℕ) (plan : Plan) → plan.ok ≡ true → list_of W π s t plan ≡ some (placed W π s plan.sets t)
unfolding list_of choose
list-yes W π s t plan e = rw e

pub list-no : (W : Windows) (π : ℕ → ℕ) (s : ℕ) (t : List ℕ) (plan : Plan) → plan.ok ≡ false → list_of W π s t plan ≡ none
unfolding list_of choose
list-no W π s t plan e = rw e

module _ (W : Windows) (Z : Seats W) (s : ℕ) (t : List ℕ) where
  abbrev π : ℕ → ℕ
  π = Z.place

  -- the list after the jobs S in slot s
  abbrev after : List ℕ → List ℕ
  after S = place s S t

  -- one slot more
  list-slot : (S : Set) (plan : Plan) → plan.ok ≡ true → list_of W π s t (slot_then S plan) ≡ list_of W π (suc s) (after (jobs_of π (held W s) S)) plan
  unfolding list_of choose slot_then placed
  list-slot S plan e = rw e

  -- a try, and the rest where it leads to nothing
  list-try : (S : Set) (plan rest : Plan) (o r : Option (List ℕ)) → o ≡ list_of W π (suc s) (after (jobs_of π (held W s) S)) plan → list_of W π s t rest ≡ r
      → list_of W π s t (choose plan.ok (slot_then S plan) rest) ≡ or_else o r
  unfolding choose or_else
  list-try S plan rest o r p q = cases plan.ok refl
    where
      t' : List ℕ
      t' = after (jobs_of π (held W s) S)

      cases : (b : Bool) → plan.ok ≡ b → list_of W π s t (choose b (slot_then S plan) rest) ≡ or_else o r
      cases true e = list-slot S plan e ∙ list-yes W π (suc s) t' plan e ∙ sym (ap (λ (y : Option (List ℕ)). or_else y r) (p ∙ list-yes W π (suc s) t' plan e))
      cases false e = q ∙ sym (ap (λ (y : Option (List ℕ)). or_else y r) (p ∙ list-no W π (suc s) t' plan e))

  -- the tries, as sets of jobs tried
  tried-first : (go : Set → Plan) (Ss : List Set) → ((S : Set) → Memᴰ S Ss → OfPlaces π (held W s) S)
      → list_of W π s t (try_all go Ss) ≡ first (λ S. list_of W π (suc s) (after S) (go (set_of π (held W s) S))) (map (jobs_of π (held W s)) Ss)
  unfolding try_all first choose list_of
  tried-first go [] of = refl
  tried-first go (S ∷ Ss) of =
      list-try S (go S) (try_all go Ss) _ _
      (ap (λ (X : Set). list_of W π (suc s) (after (jobs_of π (held W s) S)) (go X)) (set-of-jobs π (held W s) (Z.apart s) S (of S (Memᴰ.head refl))))
      (tried-first go Ss (λ R m. of R (Memᴰ.tail m)))

-- ---- a slot

module _ {G : Given} {k : ℕ} (x : At G (suc k)) (time : InTime G x.s x.t) where
  abbrev H : List ℕ
  H = held G.W x.s

  abbrev π' : ℕ → ℕ
  π' = G.Z.place

  abbrev tries : List Set
  tries = tries_at G.A G.cap x.s x.done x.ran

  -- the state after the jobs S
  next : (S : List ℕ) → State (within G) (suc x.s) (place x.s S x.t) → At G k
  next S st = record {
    s = suc x.s;
    sum = omega (arith, x.sum);
    t = place x.s S x.t;
    done = done_after G.A x.s x.done (set_of π' H S);
    ran = set_of π' H S;
    state = st;
    closed = λ i l o. closes i (time i l (⊎_elim (λ p. inl (omega arith)) (λ p. inr (omega arith)) o)) (spot (within G) x.s x.t S x.state i l);
    done-is = unfold done_after in on-iff (λ i m. done' i (spot (within G) x.s x.t S x.state i (in-n i m))) (on-union (next-is x time) S-is);
    ran-is = on-iff (λ i m. ran' i (spot (within G) x.s x.t S x.state i (in-n i m))) S-is;
  }
    where
      S-is : On π' H (set_of π' H S) (λ i. Memᴰ i S)
      S-is = set-of-is π' H S (G.Z.apart x.s)

      in-n : (i : ℕ) → Memᴰ i H → i < G.W.n
      in-n i m = ((in_held G.W x.s i).0 m).0

      closes : (i : ℕ) → at x.t i < x.s → Spot (within G) x.s x.t S i → at (place x.s S x.t) i < suc x.s
      closes i p (now m e) = omega arith
      closes i p (earlier n e q) = omega arith
      closes i p (waits n e q) = omega arith

      done' : (i : ℕ) → Spot (within G) x.s x.t S i → ((at x.t i < x.s) ⊎ Memᴰ i S) ↔ (at (place x.s S x.t) i < suc x.s)
      done' i (now m e) = (λ o. omega arith, λ l. inr m)
      done' i (earlier n e p) = (λ o. omega arith, λ l. inl p)
      done' i (waits n e p) = (λ o. ⊎_elim (λ l. absurd (omega (arith, x.sum))) (λ m. absurd (n m)) o, λ l. absurd (omega (arith, x.sum)))

      ran' : (i : ℕ) → Spot (within G) x.s x.t S i → Memᴰ i S ↔ (at (place x.s S x.t) i + 1 ≡ suc x.s)
      ran' i (now m e) = (λ o. omega arith, λ l. m)
      ran' i (earlier n e p) = (λ o. absurd (n o), λ l. absurd (omega arith))
      ran' i (waits n e p) = (λ o. absurd (n o), λ l. absurd (omega (arith, x.sum)))

  -- the tries find the best list of the state, if what continues after them does
  slot-best : (go : Set → Set → Plan)
      → ((y : At G k) → y.s ≡ suc x.s → Best G.W.n (Good (within G) y.s y.t) (list_of G.W G.Z.place y.s y.t (go y.done y.ran)))
      → Best G.W.n (Good (within G) x.s x.t)
      (list_of G.W G.Z.place x.s x.t (try_all (λ S. go (done_after G.A x.s x.done S) S) (tries_at G.A G.cap x.s x.done x.ran)))
  unfolding next
  slot-best go ih =
      rw (tried-first G.W G.Z x.s x.t (λ S. go (done_after G.A x.s x.done S) S) tries
      (tries-places G.W G.Z G.C G.A G.ready.shows G.cap x.s (omega (arith, x.sum)) x.done x.ran))
      (maximal-slot (within G) x.s x.t (map (jobs_of π' H) tries) (tries-maximal x time) (omega (arith, x.sum)) x.state
      (λ S. list_of G.W π' (suc x.s) (place x.s S x.t) (go (done_after G.A x.s x.done (set_of π' H S)) (set_of π' H S)))
      (λ S m st. ih (next S st) refl))

-- ---- all slots

module _ (G : Given) where
  module _ {left : ℕ} (x : At G left) where
    -- the lists that the state stands for
    abbrev Family : List ℕ → Type 0
    Family = Good (within G) x.s x.t

    -- a plan from there on, as a list
    abbrev onward : Plan → Option (List ℕ)
    onward plan = list_of G.W G.Z.place x.s x.t plan

    -- no slot is left, and all that is due is done
    done-best : left ≡ 0 → InTime G x.s x.t → Best G.W.n Family (some x.t)
    done-best z e = placed-best (within G) x.s x.t (omega (arith, x.sum)) x.state (all (omega (arith, x.sum)))
      where
        all : x.s ≡ G.C → (i : ℕ) → i < G.W.n → at x.t i < x.s
        all q i l = e i l (inr (omega arith))

    -- a state that stands for a list is in time
    in-time : (u : List ℕ) → Family u → InTime G x.s x.t
    in-time u g i l o = go (dec_lt (at x.t i) x.s)
      where
        go : Dec (at x.t i < x.s) → at x.t i < x.s
        go (yes q) = q
        go (no q) =
            let w = (may-start G.W G.C (at u i) i).0 (g.inside i l) in
            let v = (in_held G.W (at u i) i).0 w.0 in
            let n = g.new i l (omega arith) in
            absurd (⊎_elim (λ a. omega (arith, v.2)) (λ a. omega (arith, w.1)) o)

    -- so where a job is late there is none
    late-none : is_subset (G.A.due x.s) x.done ≡ false → (u : List ℕ) → Family u → ⊥
    late-none e u g = present (is_subset (G.A.due x.s) x.done) ((time-test x).1 (in-time u g)) e

  -- the search from a state on
  abbrev search : ℕ → ℕ → Set → Set → Plan
  search k s done ran = find G.A (tries_at G.A G.cap) k s done ran

  -- what it finds is the best list that the state stands for
  pub find-best : (k : ℕ) (x : At G k)
      → Best G.W.n (Good (within G) x.s x.t) (list_of G.W G.Z.place x.s x.t (search k x.s x.done x.ran))
  unfolding find list_of placed choose
  find-best zero x = go (is_subset (G.A.due x.s) x.done) refl
    where
      go : (b : Bool) → is_subset (G.A.due x.s) x.done ≡ b → Best G.W.n (Family x) (onward x (choose b finished no_plan))
      go true e = done-best x refl ((time-test x).0 e)
      go false e = late-none x e
  find-best (suc k) x =
      go (is_subset (G.A.due x.s) x.done) refl (λ time. slot-best x time (λ d r. search k (suc x.s) d r) (λ y e. rw (← e) (find-best k y)))
    where
      tried : Plan
      tried = try_all (λ S. search k (suc x.s) (done_after G.A x.s x.done S) S) (tries_at G.A G.cap x.s x.done x.ran)

      go : (b : Bool) → is_subset (G.A.due x.s) x.done ≡ b → (InTime G x.s x.t → Best G.W.n (Family x) (onward x tried))
          → Best G.W.n (Family x) (onward x (choose b tried no_plan))
      go true e r = r ((time-test x).0 e)
      go false e r = late-none x e

  -- the state at the start
  begin : At G G.C
  begin = record {
    s = 0;
    sum = omega arith;
    t = start (within G);
    done = empty;
    ran = empty;
    state = start-state (within G);
    closed = λ i l o. absurd (⊎_elim (λ p. omega arith) (λ p. omega (arith, G.ready.room.behind i l)) o);
    done-is = on-empty G.Z.place [] (λ i. at (start (within G)) i < 0) (λ i m p. omega arith);
    ran-is = on-empty G.Z.place [] (λ i. at (start (within G)) i + 1 ≡ 0) (λ i m p. omega arith);
  }

  -- from there: the best of all lists that keep the rules and the cap, and fit
  pub start-best : Best G.W.n (λ u. Runs G.W.n G.W.needs G.cap u × Fits G.W.n G.C u)
      (list_of G.W G.Z.place 0 (start (within G)) (plan_of G.A G.cap G.C))
  unfolding begin
  start-best = Best-iff G.W.n (Good (within G) 0 (start (within G))) (λ u. Runs G.W.n G.W.needs G.cap u × Fits G.W.n G.C u)
      (λ u g. (record { kept = g.kept; capped = g.capped }, g.fits)) (λ u k. start-good (within G) u k.0 k.1 (inside u k.0.kept k.1))
      (list_of G.W G.Z.place 0 (start (within G)) (plan_of G.A G.cap G.C)) (find-best G.C begin)
    where
      inside : (u : List ℕ) → Kept (Gives G.W.needs) (at u) → Fits G.W.n G.C u → (i : ℕ) → i < G.W.n → Memᴰ i ((within G).candidates (at u i))
      inside u k f i l =
          let b = G.bounds.timely u G.C G.in-limit k f i l in
          (may-start G.W G.C (at u i) i).1 ((in_held G.W (at u i) i).1 (l, G.bounds.early u k i l, b.0), b.1)
