-- One slot of the giving of boards: first the jobs with a giver in the slot before, then the others. Assumes nothing.
use Rattle.std.specs.Prelude.{◌≡◌, ◌⊎◌, ◌↔◌, Bool, false, ◌&&◌, ◌||◌, List, [], ℕ, suc, ◌+◌, ◌≤◌, ◌<◌, length, eqb, ltb}
use Rattle.std.proofs.Math.Path.{refl, sym}
use Rattle.std.proofs.Common.{ap, ◌∙◌, arith}
use Rattle.std.proofs.Math.Logic.{inl, inr, ⊎_elim}
use Rattle.std.proofs.Math.Bool.{true}
use mathlib.Core.List.Memᴰ
use Rattle.std.proofs.Math.Option.{Option, none, some}
use Rattle.std.proofs.Math.Decide.{ℕ_discrete, dec_lt}
use Rattle.std.proofs.Math.Nat.{zero-add}
use Rattle.std.proofs.Math.Dec.{T}
use Rattle.rules.specs.Basics.{choose, at, count}
use Rattle.rules.specs.Needs.{Need, Gives, NeedsIn}
use Rattle.rules.specs.Program.{Kept}
use Rattle.rules.specs.Boards.{sweep, giver_before, lowest_free, Placing, inherit, first_fit, inherit_in, first_fit_in, slot_boards, in_slot}
use Rattle.laws.specs.Tests.{T_and, T-or, T-ltb, T-eqb, tests}
use Rattle.laws.specs.Counting.{count-lt}
use Rattle.laws.specs.BoardRules.{GiverBefore, nobody, giver, giver-before, lowest-all, lowest-in, lowest-new, sweep-inv}
use Rattle.laws.specs.BoardWords.{Inherits, TakesFirst, Left, LowestLeft, lowest-same}
use Rattle.laws.specs.BoardStep.{Given, Placed, placed_same, placed-more}

-- there is one
is_some : Option ℕ → Bool
is_some none = false
is_some (some g) = true

module _ (n : ℕ) (needs : List Need) (needs-in : NeedsIn n needs) (t : List ℕ) (kept : Kept (Gives needs) (at t)) (M : ℕ) where
  module _ (s : ℕ) (full : count (in_slot t s) n ≤ M) (b₀ : List ℕ) (old : Given n needs t M s b₀) where
    -- within slot s, what D marks has its board
    abbrev Now : (ℕ → Bool) → Placing → Type 0
    Now D z = Placed n needs t M s b₀ D z

    -- ---- the first pass: the jobs with a giver in the slot before

    -- job i has such a giver
    inheritsb : ℕ → Bool
    inheritsb i = is_some (giver_before needs t i)

    has-giver : (i : ℕ) → T (inheritsb i) → Inherits needs t i
    unfolding inheritsb is_some
    has-giver i h = go (giver_before needs t i) (giver-before needs t i) h
      where
        go : (o : Option ℕ) → GiverBefore needs t i o → T (is_some o) → Inherits needs t i
        go _ (nobody k) h = absurd h
        go _ (giver g a e) h = (g, a, e)

    with-giver : (i : ℕ) → Inherits needs t i → T (inheritsb i)
    unfolding inheritsb is_some
    with-giver i w = go (giver_before needs t i) (giver-before needs t i)
      where
        go : (o : Option ℕ) → GiverBefore needs t i o → T (is_some o)
        go _ (nobody k) = k w.0 w.1 w.2
        go _ (giver g a e) = tt

    -- the jobs that have their boards when the pass comes to job x
    first : ℕ → ℕ → Bool
    first x i = ltb i x && inheritsb i

    in-first : (x i : ℕ) → T (first x i) ↔ ((i < x) × T (inheritsb i))
    unfolding first
    in-first x i = (λ h. simp tests at h, λ h. simp tests h)

    start : Now (first 0) ([], b₀)
    start = record {
      len = old.len;
      past = λ i l h. refl;
      used = λ i l e d. absurd (omega (arith, (in-first 0 i).0 d));
      users = λ c k. absurd (Memᴰ.not-nil k);
      low = λ i l e d. absurd (omega (arith, (in-first 0 i).0 d));
      bound = λ i l e d. absurd (omega (arith, (in-first 0 i).0 d));
      apart = λ i j l k e f d c h. absurd (omega (arith, (in-first 0 i).0 d));
      inherits = λ g i a e d h. absurd (omega (arith, (in-first 0 i).0 d));
      lowest = λ i l e d k. absurd (omega (arith, (in-first 0 i).0 d));
      size = omega arith;
    }

    step-first : (x : ℕ) (z : Placing) → 0 ≤ x → x < 0 + n → Now (first x) z → Now (first (suc x)) (inherit_in needs t s x z)
    unfolding inherit_in inherit choose
    step-first x z _ lx m = go (eqb (at t x) s) (T-eqb (at t x) s) (giver_before needs t x) refl (giver-before needs t x)
      where
        up : (i : ℕ) → T (first x i) → T (first (suc x) i)
        up i h = let w = (in-first x i).0 h in (in-first (suc x) i).1 (omega (arith, w.0), w.1)

        split : (i : ℕ) → (i < suc x) × T (inheritsb i) → Dec (i ≡ x) → (i ≡ x) ⊎ T (first x i)
        split i w (yes p) = inl p
        split i w (no p) = inr ((in-first x i).1 (omega (arith, w.0), w.1))

        next : (at t x ≡ s → ¬ T (inheritsb x)) → (i : ℕ) → i < n → at t i ≡ s → T (first x i) ↔ T (first (suc x) i)
        next k i l e = (
          up i,
          λ h. let w = (in-first (suc x) i).0 h in
              ⊎_elim (λ q. absurd (k (ap (at t) (sym q) ∙ e) (rw q at w.1))) (λ q. q) (split i w (ℕ_discrete i x)),
        )

        go : (b : Bool) → T b ↔ (at t x ≡ s) → (o : Option ℕ) → giver_before needs t x ≡ o → GiverBefore needs t x o
            → Now (first (suc x)) (choose b (inherit o x z) z)
        go false f o e v = placed_same n needs t M s b₀ needs-in (first x) (first (suc x)) z (next (λ q. absurd (f.1 q))) m
        go true f _ e (nobody k) = placed_same n needs t M s b₀ needs-in (first x) (first (suc x)) z
            (next (λ q d. let w = has-giver x d in k w.0 w.1 w.2)) m
        go true f _ e (giver g a q) =
            placed-more n needs t M s b₀ needs-in (first x) (first (suc x)) z x (at z.1 g) (omega arith) (f.0 tt) (λ d. omega (arith, (in-first x x).0 d))
            ((in-first (suc x) x).1 (omega arith, some_is))
            (λ i l u. up i) (λ i l u d. split i ((in-first (suc x) i).0 d) (ℕ_discrete i x))
            (rw same (old.low g g-in g-past)) (rw same (old.bound g g-in g-past))
            (λ i l u d v. omega (arith, (in-first x i).0 d, one-taker i l u ((in-first x i).0 d).1 d v))
            (λ j c u. same ∙ ap (at b₀) (kept.take-one g j x a c q (u ∙ sym (f.0 tt))))
            (λ k. absurd (k (g, a, q))) (λ i l u d k. absurd (k (has-giver i ((in-first (suc x) i).0 d).1))) m
          where
            g-in : g < n
            g-in = (needs-in g x a).0

            g-past : at t g < s
            g-past = omega (arith, q, f.0 tt)

            same : at z.1 g ≡ at b₀ g
            same = m.past g g-in g-past

            some_is : T (inheritsb x)
            some_is = unfold inheritsb is_some in rw e tt

            -- no other job of the slot has the board of g
            one-taker : (i : ℕ) → i < n → at t i ≡ s → T (inheritsb i) → T (first x i) → at z.1 i ≡ at z.1 g → i ≡ x
            one-taker i l u d c v =
                let w = has-giver i d in
                let p : at b₀ w.0 ≡ at b₀ g = sym (m.inherits w.0 i w.1 u c (w.2 ∙ u)) ∙ v ∙ same in
                let j = old.apart w.0 g (needs-in w.0 i w.1).0 g-in (omega (arith, w.2, u)) (omega (arith, w.2, u, q, f.0 tt)) p in
                kept.give-one g i x (rw j at w.1) a (omega (arith, u, q, f.0 tt)) (sym q)

    -- ---- the second pass: the others

    -- the jobs that have their boards when the pass comes to job x
    second : ℕ → ℕ → Bool
    second x i = inheritsb i || ltb i x

    in-second : (x i : ℕ) → T (second x i) → T (inheritsb i) ⊎ (i < x)
    unfolding second
    in-second x i h = ⊎_elim (λ q. inl q) (λ q. inr ((T-ltb i x).0 q)) ((T-or (inheritsb i) (ltb i x)).0 h)

    inherits-second : (x i : ℕ) → T (inheritsb i) → T (second x i)
    unfolding second
    inherits-second x i h = (T-or (inheritsb i) (ltb i x)).1 (inl h)

    below-second : (x i : ℕ) → i < x → T (second x i)
    unfolding second
    below-second x i h = (T-or (inheritsb i) (ltb i x)).1 (inr ((T-ltb i x).1 h))

    between : (z : Placing) → Now (first n) z → Now (second 0) z
    between z m =
        placed_same n needs t M s b₀ needs-in (first n) (second 0) z
        (λ i l e. (
          λ h. inherits-second 0 i ((in-first n i).0 h).1,
          λ h. ⊎_elim (λ q. (in-first n i).1 (l, q)) (λ q. absurd (omega (arith, q))) (in-second 0 i h),
        )) m

    step-second : (x : ℕ) (z : Placing) → 0 ≤ x → x < 0 + n → Now (second x) z → Now (second (suc x)) (first_fit_in needs t s x z)
    unfolding first_fit_in first_fit choose
    step-second x z _ lx m = go (eqb (at t x) s) (T-eqb (at t x) s) (giver_before needs t x) refl (giver-before needs t x)
      where
        up : (i : ℕ) → T (second x i) → T (second (suc x) i)
        up i h = ⊎_elim (λ q. inherits-second (suc x) i q) (λ q. below-second (suc x) i (omega (arith, q))) (in-second x i h)

        split : (i : ℕ) → T (second (suc x) i) → (i ≡ x) ⊎ T (second x i)
        split i h = ⊎_elim (λ q. inr (inherits-second x i q)) (λ q. which q (ℕ_discrete i x)) (in-second (suc x) i h)
          where
            which : i < suc x → Dec (i ≡ x) → (i ≡ x) ⊎ T (second x i)
            which q (yes p) = inl p
            which q (no p) = inr (below-second x i (omega arith))

        next : (at t x ≡ s → T (second x x)) → (i : ℕ) → i < n → at t i ≡ s → T (second x i) ↔ T (second (suc x) i)
        next k i l e = (up i, λ h. ⊎_elim (λ q. rw q (k (ap (at t) (sym q) ∙ e))) (λ q. q) (split i h))

        go : (b : Bool) → T b ↔ (at t x ≡ s) → (o : Option ℕ) → giver_before needs t x ≡ o → GiverBefore needs t x o
            → Now (second (suc x)) (choose b (first_fit o x z) z)
        go false f o e v = placed_same n needs t M s b₀ needs-in (second x) (second (suc x)) z (next (λ q. absurd (f.1 q))) m
        go true f _ e (giver g a q) = placed_same n needs t M s b₀ needs-in (second x) (second (suc x)) z (next (λ u. inherits-second x x some_is)) m
          where
            some_is : T (inheritsb x)
            some_is = unfold inheritsb is_some in rw e tt
        go true f _ e (nobody k) =
            placed-more n needs t M s b₀ needs-in (second x) (second (suc x)) z x (lowest_free (length z.0) 1 z.0) (omega arith) (f.0 tt) out
            (below-second (suc x) x (omega arith)) (λ i l u. up i) (λ i l u. split i)
            (lowest-in (length z.0) 1 z.0).0 (omega (arith, (lowest-in (length z.0) 1 z.0).1, m.size, room, full))
            (λ i l u d v. lowest-new (length z.0) z.0 (omega arith) (rw v at (m.used i l u d))) (λ g a u. absurd (k g a (u ∙ sym (f.0 tt))))
            (λ w. lowest-free) last m
          where
            out : ¬ T (second x x)
            out d = ⊎_elim (λ q. let w = has-giver x q in k w.0 w.1 w.2) (λ q. omega (arith, q)) (in-second x x d)

            -- the jobs that take first have their boards, and no others
            first-is : (j : ℕ) → T (second x j) ↔ TakesFirst needs t j x
            first-is j = (
              λ d. ⊎_elim (λ q. inl (has-giver j q)) (λ q. inr (omega (arith, q))) (in-second x j d),
              λ p. ⊎_elim (λ q. inherits-second x j (with-giver j q)) (λ q. below-second x j (omega (arith, q))) p,
            )

            lowest-free : LowestLeft n needs t z.1 x (lowest_free (length z.0) 1 z.0)
            lowest-free = record {
              left = record {
                from-1 = (lowest-in (length z.0) 1 z.0).0;
                not_taken = λ w. lowest-new (length z.0) z.0 (omega arith)
                    (rw w.has-it at (m.used w.job w.in-file (w.beside ∙ f.0 tt) ((first-is w.job).1 w.first)));
              };
              lowest = λ v w. not-below v w (dec_lt v (lowest_free (length z.0) 1 z.0));
            }
              where
                not-below : (v : ℕ) → Left n needs t z.1 x v → Dec (v < lowest_free (length z.0) 1 z.0) → lowest_free (length z.0) 1 z.0 ≤ v
                not-below v w (no h) = omega arith
                not-below v w (yes h) =
                    let u = m.users v (lowest-all (length z.0) 1 z.0 v w.from-1 h) in
                    absurd (w.not_taken (record {
                      job = u.0;
                      in-file = u.1;
                      beside = u.2 ∙ sym (f.0 tt);
                      first = (first-is u.0).0 u.3;
                      has-it = u.4;
                    }))

            last : (i : ℕ) → i < n → at t i ≡ s → T (second (suc x) i) → ¬ Inherits needs t i → ¬ TakesFirst needs t x i
            last i l u d w p =
                ⊎_elim (λ q. w (has-giver i q)) (λ q. ⊎_elim (λ v. k v.0 v.1 v.2) (λ v. omega (arith, q, v)) p) (in-second (suc x) i d)

            room : count (λ i. in_slot t s i && second x i) n < count (in_slot t s) n
            room = unfold in_slot in
                count-lt (λ i. in_slot t s i && second x i) (in_slot t s) n x (λ i l p. ((T_and (in_slot t s i) (second x i)).0 p).0) (omega arith)
                (λ p. out ((T_and (in_slot t s x) (second x x)).0 p).1) ((T-eqb (at t x) s).1 (f.0 tt))

    -- the slots before s + 1 have their boards
    pub slot-given : Given n needs t M (suc s) (slot_boards n needs t s b₀)
    unfolding slot_boards
    slot-given = finish (sweep (first_fit_in needs t s) n 0 z₁)
        (rw zero-add at (sweep-inv (λ x z. Now (second x) z) (first_fit_in needs t s) n 0 step-second z₁ (between z₁ first_done)))
      where
        z₁ : Placing
        z₁ = sweep (inherit_in needs t s) n 0 ([], b₀)

        first_done : Now (first n) z₁
        first_done = rw zero-add at (sweep-inv (λ x z. Now (first x) z) (inherit_in needs t s) n 0 step-first ([], b₀) start)

        finish : (z : Placing) → Now (second n) z → Given n needs t M (suc s) z.1
        finish z m = record {
          len = m.len;
          low = λ i l h. by (λ q. rw (m.past i l q) (old.low i l q)) (λ q. m.low i l q (done i l)) (dec_lt (at t i) s) h;
          bound = λ i l h. by (λ q. rw (m.past i l q) (old.bound i l q)) (λ q. m.bound i l q (done i l)) (dec_lt (at t i) s) h;
          apart = λ i j l k h e v.
              by (λ q. old.apart i j l k q e (sym (m.past i l q) ∙ v ∙ m.past j k (omega (arith, e))))
              (λ q. m.apart i j l k q (sym e ∙ q) (done i l) (done j k) v) (dec_lt (at t i) s) h;
          inherits = λ g k a h e. let u = needs-in g k a in
              by (λ q. m.past k u.1 q ∙ old.inherits g k a q e ∙ sym (m.past g u.0 (omega (arith, e))))
              (λ q. m.inherits g k a q (done k u.1) (e ∙ q) ∙ sym (m.past g u.0 (omega (arith, e)))) (dec_lt (at t k) s) h;
          lowest = λ i l h w.
              by (λ q. rw (m.past i l q) (lowest-same n needs t b₀ z.1 i (at b₀ i) (λ j k e _. sym (m.past j k (omega (arith, e)))) (old.lowest i l q w)))
              (λ q. m.lowest i l q (done i l) w) (dec_lt (at t i) s) h;
        }
          where
            done : (i : ℕ) → i < n → T (second n i)
            done i l = below-second n i l

            by : {P : Type 0} {a : ℕ} → (a < s → P) → (a ≡ s → P) → Dec (a < s) → a < suc s → P
            by f g (yes q) h = f q
            by f g (no q) h = g (omega arith)
