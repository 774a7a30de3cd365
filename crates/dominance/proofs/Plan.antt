-- The model of the search over lists: makespans counted up, slots one after the other, in each slot the maximal sets in the order of
-- preference; where a slot cannot take all of such a set, the sets with as many jobs as it takes. It gives the best start list. Assumes nothing.
-- Its definitions: specs/Plan.antt.
use Rattle.std.specs.Prelude.{◌≡◌, refl, ◌↔◌, ◌&&◌, replicate, T, leb}
use Rattle.std.proofs.Common.{inl, inr, ⊎_elim}
use Rattle.std.proofs.Math.Bool.{Bool, not}
use mathlib.Core.List.Memᴰ
use mathlib.Core.List.{List, ◌++◌, map, Memᴰ}
use Rattle.std.proofs.Math.Option.{Option}
use Prim.Native.Nat.{ℕ, ◌+◌, ◌<◌, ◌≤◌}
use native.Mathlib.Omega.{arith}
use Rattle.std.proofs.Math.ListN.{length}
use Rattle.std.proofs.Math.Dec.{eqb}
use Rattle.rules.specs.Basics.{at, has, filter, Distinct}
use Rattle.rules.specs.Needs.{Need, Gives, NeedsIn}
use Rattle.rules.specs.Program.{Fits}
use Rattle.rules.specs.Preference.{best}
use Rattle.rules.specs.Windows.{release, tail}
use Rattle.rules.specs.Boards.{Runs, runsb}
use Rattle.laws.specs.Tests.{T_and, T_not, T-leb, T-eqb, T-has, tests, by-choice, choose_yes}
use Rattle.laws.specs.Lists.{Within, Rising, map-mem, map-mem⁻¹, filter-mem, filter-mem⁻¹, filter-rising}
use Rattle.laws.specs.Counting.{rising-distinct, passing-in, passing-distinct}
use Rattle.laws.specs.Program.{slots-pos}
use Rattle.laws.specs.Caps.{runs-is}
use Rattle.laws.specs.Preference.{Best}
use Rattle.dominance.specs.Tries.{Sooner, ordered-map, ordered-filter}
use Rattle.dominance.specs.Sublists.{sublists, sublists-within, sublists-rising, filter-sublist, sublists-ordered}
use Rattle.dominance.specs.Exchange.{Able}
use Rattle.dominance.specs.States.{Instance, State, Good, AtMost, Legal, start-state}
use Rattle.dominance.specs.Search.{Step, search, search-best}
use Rattle.dominance.specs.Tests.{ableb, able-is, giver_beforeb, giver-before-is, oneb, one-is, servedb, served-is}
use Rattle.dominance.specs.Maximal.{Maximal, TriesMaximal}
use Rattle.dominance.proofs.Maximal.{maximal-right}
use Rattle.dominance.specs.Exact.{Forced, Tied, Exact, Parts}
use Rattle.dominance.proofs.Exact.{parts-legal, exact-maximal, maximal-parts, maximal-exact}
use Rattle.dominance.specs.Room.{Tying}
use Rattle.dominance.proofs.Room.{parts-fit, has_room, full-set, full-only}
use Rattle.dominance.specs.Windows.{in_window, release-bounds, windowed, windowed-best}
use Rattle.dominance.specs.Count.{count-best}
use Rattle.dominance.specs.Plan.{forced, tied, ready, tyingb, tying, maximal_sets, full_sets, slot_sets, plan}

-- ---- a slot tries the maximal sets in order

module _ (I : Instance) (s : ℕ) (t : List ℕ) where
  -- what is forced, what is tied, and the test of a set of tied jobs
  abbrev F : List ℕ
  F = forced I.needs I.candidates s t

  abbrev B : List ℕ
  B = tied I.needs I.candidates s t

  -- what they say
  forced-is : (x : ℕ) → Memᴰ x F ↔ Forced I s t x
  unfolding forced
  forced-is x = (
    λ m. let w = filter-mem⁻¹ test (I.candidates s) x m in let r = simp (T_and, T_not, able-is, giver-before-is) at w.1 in
        record { candidate = w.0; able = r.0; alone = r.1 },
    λ f. filter-mem test (I.candidates s) x f.candidate (simp (T_and, T_not, able-is, giver-before-is) (f.able, f.alone)),
  )
    where
      test : ℕ → Bool
      test x = ableb I.needs s t x && not (giver_beforeb I.needs s t x)

  tied_is : (x : ℕ) → Memᴰ x B ↔ Tied I s t x
  unfolding tied
  tied_is x = (
    λ m. let w = filter-mem⁻¹ test (I.candidates s) x m in let r = simp (T_and, able-is, giver-before-is) at w.1 in
        record { candidate = w.0; able = r.0; giver = r.1 },
    λ d. filter-mem test (I.candidates s) x d.candidate (simp (T_and, able-is, giver-before-is) (d.able, d.giver)),
  )
    where
      test : ℕ → Bool
      test x = ableb I.needs s t x && giver_beforeb I.needs s t x

  abbrev exactb : List ℕ → Bool
  exactb A = oneb I.needs s t A && servedb I.needs s t B A

  exact-is : (A : List ℕ) → Within A B → T (exactb A) ↔ Exact I s t A
  exact-is A wi = (
    λ h. let r = (T_and (oneb I.needs s t A) (servedb I.needs s t B A)).0 h in
        record {
          tied = λ x m. (tied_is x).0 (wi x m);
          one = (one-is I.needs s t A).0 r.0;
          served = λ g j p d e. (served-is I.needs s t B A).0 r.1 g j
              p ((tied_is j).1 d) e;
        },
    λ ex. (T_and (oneb I.needs s t A) (servedb I.needs s t B A)).1
        ((one-is I.needs s t A).1 ex.one, (served-is I.needs s t B A).1 (λ g j p m e. ex.served g j p ((tied_is j).0 m) e)),
  )

  -- a set of tied jobs with all that is forced
  parts : (A : List ℕ) → Parts I s t (F ++ A) A
  parts A x = (
    λ m. ⊎_elim (λ f. inl ((forced-is x).0 f)) (λ a. inr a) (Memᴰ.append_cases F m),
    λ h. ⊎_elim (λ f. Memᴰ.append_left A ((forced-is x).1 f)) (λ a. Memᴰ.append_right F a) h,
  )

  B-rising : Rising B
  unfolding tied
  B-rising = filter-rising (λ x. ableb I.needs s t x && giver_beforeb I.needs s t x) (I.candidates s) (I.rising s)

  -- where the slot takes all that the needs let run, these sets are the maximal ones
  maximal-tries : ((R : List ℕ) → Legal I s t R → AtMost I.cap R) → TriesMaximal I s t (maximal_sets I.needs I.candidates s t)
  unfolding maximal_sets
  maximal-tries room = record {
    maximal = map-mem⁻¹ (Maximal I s t) (λ A. F ++ A) exacts (λ A m. let ex = (exact-is A (within A m)).0 (filter-mem⁻¹ exactb (sublists B) A m).1 in
        exact-maximal I s t (F ++ A) A (parts A) ex (room (F ++ A) (parts-legal I s t (F ++ A) A (parts A) (ex.tied, ex.one))));
    each = each;
    ordered = ordered-map (λ A. F ++ A) exacts (λ A R m k. joined A R (within A m)) (ordered-filter exactb (sublists B) (sublists-ordered B B-rising));
  }
    where
      exacts : List (List ℕ)
      exacts = filter exactb (sublists B)

      within : (A : List ℕ) → Memᴰ A exacts → Within A B
      within A m = sublists-within B A (filter-mem⁻¹ exactb (sublists B) A m).0

      joined : (A R : List ℕ) → Within A B → Sooner A R → Sooner (F ++ A) (F ++ R)
      joined A R wi d = record {
        job = d.job;
        has = Memᴰ.append_right F d.has;
        lacks = λ m. ⊎_elim (λ f. f.alone ((tied_is d.job).0 (wi d.job d.has)).giver) d.lacks ((parts R d.job).0 m);
        lower = λ i h. (
          λ m. (parts R i).1 (⊎_elim inl (λ a. inr ((d.lower i h).0 a)) ((parts A i).0 m)),
          λ m. (parts A i).1 (⊎_elim inl (λ a. inr ((d.lower i h).1 a)) ((parts R i).0 m)),
        );
      }

      each : (S : List ℕ) → Maximal I s t S → (R : List ℕ) × Memᴰ R (map (λ A. F ++ A) exacts) × ((i : ℕ) → Memᴰ i S ↔ Memᴰ i R)
      each S mx = (
        F ++ A,
        map-mem (λ A. F ++ A) exacts A (filter-mem exactb (sublists B) A (filter-sublist (λ x. has x S) B)
            ((exact-is A (λ x m. (filter-mem⁻¹ (λ x. has x S) B x m).0)).1 (maximal-exact I s t room S mx A A-is))),
        λ i. (λ m. (parts A i).1 ((maximal-parts I s t room S mx A A-is i).0 m), λ m. (maximal-parts I s t room S mx A A-is i).1 ((parts A i).0 m)),
      )
        where
          A : List ℕ
          A = filter (λ x. has x S) B

          A-is : (x : ℕ) → Memᴰ x A ↔ (Memᴰ x S × Tied I s t x)
          A-is x = (
            λ m. let w = filter-mem⁻¹ (λ x. has x S) B x m in ((T-has x S).0 w.1, (tied_is x).0 w.0),
            λ h. filter-mem (λ x. has x S) B x ((tied_is x).1 h.1) ((T-has x S).1 h.0),
          )

  -- ---- a slot that cannot take them tries the full sets in order

  -- what is ready
  abbrev A : List ℕ
  A = ready I.needs I.candidates s t

  abbrev G : List ℕ
  G = tying I.needs I.candidates s t

  ready-is : (x : ℕ) → Memᴰ x A ↔ (Memᴰ x (I.candidates s) × Able (Gives I.needs) s t x)
  unfolding ready
  ready-is x = (
    λ m. let w = filter-mem⁻¹ (λ x. ableb I.needs s t x) (I.candidates s) x m in (w.0, (able-is I.needs s t x).0 w.1),
    λ h. filter-mem (λ x. ableb I.needs s t x) (I.candidates s) x h.0 ((able-is I.needs s t x).1 h.1),
  )

  A-rising : Rising A
  unfolding ready
  A-rising = filter-rising (λ x. ableb I.needs s t x) (I.candidates s) (I.rising s)

  tying-is : length t ≡ I.n → (g : ℕ) → Memᴰ g G ↔ Tying I s t g
  unfolding tying tyingb
  tying-is len g = (
    λ m. let w = (passing-in (tyingb I.needs s t B) (length t) g).0 m in
        let r = simp tests at w.1 in
        let p : Gives I.needs r.1.0.0 r.1.0.1 = r.1.1 in
        record { in-n = omega (arith, w.0); before = r.0; taker = (r.1.0.1, rw r.1.2.0 at p, (tied_is r.1.0.1).0 r.1.2.1) },
    λ y. (passing-in (tyingb I.needs s t B) (length t) g).1 (
      omega (arith, y.in-n),
      simp tests (y.before, ((g, y.taker.0), y.taker.1, (refl, (tied_is y.taker.0).1 y.taker.2))),
    ),
  )

  F-once : Distinct F
  unfolding forced
  F-once = rising-distinct F (filter-rising (λ x. ableb I.needs s t x && not (giver_beforeb I.needs s t x)) (I.candidates s) (I.rising s))

  G-once : Distinct G
  unfolding tying
  G-once = passing-distinct (tyingb I.needs s t B) (length t)

  full-tries : length t ≡ I.n → I.cap < length F + length G → TriesMaximal I s t (full_sets I.needs I.cap I.candidates s t)
  unfolding full_sets
  full-tries len short = record {
    maximal = λ S m. let w = filter-mem⁻¹ test (sublists A) S m in let r = (T_and (eqb (length S) I.cap) (oneb I.needs s t S)).0 w.1 in
        full-set I s t F G forced-is (tying-is len) F-once G-once S
        record {
          able = λ x k. ((ready-is x).0 (sublists-within A S w.0 x k)).1;
          candidate = λ x k. ((ready-is x).0 (sublists-within A S w.0 x k)).0;
          give-one = (one-is I.needs s t S).0 r.1;
        } (rising-distinct S (sublists-rising A A-rising S w.0)) ((T-eqb (length S) I.cap).0 r.0);
    each = each;
    ordered = ordered-filter test (sublists A) (sublists-ordered A A-rising);
  }
    where
      test : List ℕ → Bool
      test S = eqb (length S) I.cap && oneb I.needs s t S

      each : (S : List ℕ) → Maximal I s t S → (R : List ℕ) × Memᴰ R (filter test (sublists A)) × ((i : ℕ) → Memᴰ i S ↔ Memᴰ i R)
      each S mx = (
        R,
        filter-mem test (sublists A) R R-in ((T_and (eqb (length R) I.cap) (oneb I.needs s t R)).1 (
          (T-eqb (length R) I.cap).1 (full-only I s t F G forced-is (tying-is len) F-once G-once short S mx R
              (rising-distinct R (sublists-rising A A-rising R R-in)) R-is),
          (one-is I.needs s t R).1 (λ g j k p q mj mk e. mx.allowed.give-one g j k p q ((R-is j).0 mj) ((R-is k).0 mk) e),
        )),
        λ i. ((R-is i).1, (R-is i).0),
      )
        where
          R : List ℕ
          R = filter (λ x. has x S) A

          R-in : Memᴰ R (sublists A)
          R-in = filter-sublist (λ x. has x S) A

          R-is : (x : ℕ) → Memᴰ x R ↔ Memᴰ x S
          R-is x = (
            λ m. (T-has x S).0 (filter-mem⁻¹ (λ x. has x S) A x m).1,
            λ m. filter-mem (λ x. has x S) A x ((ready-is x).1 (mx.allowed.candidate x m, mx.allowed.able x m)) ((T-has x S).1 m),
          )

  -- ---- so each slot tries the maximal sets in order

  pub slot-tries : length t ≡ I.n → TriesMaximal I s t (slot_sets I.needs I.cap I.candidates s t)
  unfolding slot_sets
  slot-tries len = by-choice (TriesMaximal I s t) (leb (length F + length G) I.cap)
      (λ h. maximal-tries (has_room I s t F G forced-is (tying-is len) F-once G-once ((T-leb (length F + length G) I.cap).0 h)))
      (λ h. full-tries len (let l : ¬ (length F + length G ≤ I.cap) = λ k. h ((T-leb (length F + length G) I.cap).1 k) in omega arith))

  -- with a cap no less than the candidates these are the sets of all that is forced with each exact set of what is tied
  pub uncapped-slot : length t ≡ I.n → length (I.candidates s) ≤ I.cap → slot_sets I.needs I.cap I.candidates s t
      ≡ maximal_sets I.needs I.candidates s t
  unfolding slot_sets
  uncapped-slot len h = choose_yes (leb (length F + length G) I.cap) _ _ ((T-leb (length F + length G) I.cap).1 (omega (
    arith,
    h,
    parts-fit I s t F G forced-is (tying-is len) F-once G-once (I.candidates s) (λ x f. f.candidate) (λ g y. let w = y.taker in
        (w.0, w.1, w.2, w.2.candidate)),
  )))

-- ---- so the model gives the best start list

pub plan-is-best : (n : ℕ) (needs : List Need) (cap L : ℕ) → NeedsIn n needs → 0 < L → plan n needs cap L ≡ best n (runsb n needs cap) L
unfolding plan
plan-is-best n needs cap L needs-in l = count-best n (Runs n needs cap) L l run run-best (runsb n needs cap) (runs-is n needs cap) L 1 (omega arith)
    (omega arith) (λ u k e. slots-pos u)
  where
    step : ℕ → Step
    step C = slot_sets needs cap (in_window n (release n needs) (tail n needs) C)

    run : ℕ → Option (List ℕ)
    run C = search (step C) C 0 (replicate n L)

    run-best : (C : ℕ) → C ≤ L → Best n (λ u. Runs n needs cap u × Fits n C u) (run C)
    run-best C h =
        let I : Instance = windowed n needs needs-in cap (release n needs) (tail n needs) C L h in
        windowed-best n needs needs-in cap (release n needs) (tail n needs) C L h (release-bounds n needs needs-in) (run C)
        (search-best n C (State I) (Good I) (step C) (maximal-right I (step C) (λ s t p st. slot-tries I s t st.len)) C 0 (replicate n L) (omega arith)
        (start-state I))
