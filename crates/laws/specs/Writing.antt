-- Entries written into a list one after the other, lists that are joined, and the loop that writes them piece by piece. Assumes nothing.
use Rattle.std.specs.Prelude.{◌≡◌, refl, Bool, true, false, set, take, drop}
use Rattle.std.proofs.Common.{sym, ap₂, ◌∙◌, mul-zero, mul-suc, add-one, length-set, length-append, take-append-drop, take-suc-set, drop-set-lt}
use Rattle.std.proofs.Math.Path.{ap}
use mathlib.Core.List.{List, [], ◌∷◌, ◌++◌, map, append_assoc, Memᴰ}
use Prim.Native.Nat.{ℕ, suc, ◌+◌, ◌-◌, ◌*◌, ◌≤◌, ◌<◌}
use native.Mathlib.Omega.{arith}
use Rattle.std.proofs.Math.ListN.{length}
use Rattle.rules.specs.Basics.{choose, filter, range, joined}

-- ---- writing

-- the entries xs, written one after the other from entry i on
unfoldable pub put : ℕ → List ℕ → List ℕ → List ℕ
put i [] l = l
put i (x ∷ xs) l = put (i + 1) xs (set l i x)

-- nothing is lost or added
pub length-put : (i : ℕ) (xs l : List ℕ) → length (put i xs l) ≡ length l
unfolding put
length-put i [] l = refl
length-put i (x ∷ xs) l = length-put (i + 1) xs (set l i x) ∙ length-set l i x

-- first the one part, then the other
pub put-append : (i : ℕ) (xs ys l : List ℕ) → put i (xs ++ ys) l ≡ put (i + length xs) ys (put i xs l)
unfolding put
put-append i [] ys l = ap (λ (j : ℕ). put j ys l) (omega arith)
put-append i (x ∷ xs) ys l = put-append (i + 1) xs ys (set l i x) ∙ ap (λ (j : ℕ). put j ys (put (i + 1) xs (set l i x))) (omega arith)

-- what was there in front and behind stays
pub put-between : (i : ℕ) (xs l : List ℕ) → i + length xs ≤ length l → put i xs l ≡ take i l ++ (xs ++ drop (i + length xs) l)
unfolding put
put-between i [] l h = let e : i ≡ i + 0 = omega arith in sym (take-append-drop i l) ∙ ap (λ (j : ℕ). take i l ++ drop j l) e
put-between i (x ∷ xs) l h =
    let e : i + 1 + length xs ≡ i + suc (length xs) = omega arith in
    let front : take (i + 1) (set l i x) ≡ take i l ++ x ∷ [] = ap (λ (j : ℕ). take j (set l i x)) (add-one i) ∙ take-suc-set l i x (omega arith) in
    let behind : drop (i + 1 + length xs) (set l i x) ≡ drop (i + suc (length xs)) l =
    ap (λ (j : ℕ). drop j (set l i x)) e ∙ drop-set-lt (i + suc (length xs)) l i x (omega arith) in
    put-between (i + 1) xs (set l i x) (omega (arith, length-set l i x))
    ∙ ap₂ (λ (y z : List ℕ). y ++ (xs ++ z)) front behind
    ∙ append_assoc (take i l) (x ∷ []) (xs ++ drop (i + suc (length xs)) l)

-- from the front on: the entries, and the rest as it was
pub put_front : (xs l : List ℕ) → length xs ≤ length l → put 0 xs l ≡ xs ++ drop (length xs) l
put_front xs l h = let e : 0 + length xs ≡ length xs = omega arith in put-between 0 xs l (omega arith) ∙ ap (λ (j : ℕ). xs ++ drop j l) e

-- ---- lists that are joined

-- of the entries that pass p, or of all with nothing for the others
pub joined-filter : {A : Type 0} (p : A → Bool) (f : A → List ℕ) (xs : List A) → joined f (filter p xs) ≡ joined (λ x. choose (p x) (f x) []) xs
unfolding joined filter choose
joined-filter p f [] = refl
joined-filter {A} p f (x ∷ xs) = go (p x) (joined-filter p f xs)
  where
    go : (b : Bool) → joined f (filter p xs) ≡ joined (λ y. choose (p y) (f y) []) xs
        → joined f (choose b (x ∷ filter p xs) (filter p xs)) ≡ choose b (f x) [] ++ joined (λ y. choose (p y) (f y) []) xs
    go true e = ap (λ (l : List ℕ). f x ++ l) e
    go false e = e

pub joined-map : {A B : Type 0} (f : B → List ℕ) (g : A → B) (xs : List A) → joined f (map g xs) ≡ joined (λ x. f (g x)) xs
unfolding joined
joined-map f g [] = refl
joined-map f g (x ∷ xs) = ap (λ (l : List ℕ). f (g x) ++ l) (joined-map f g xs)

pub joined_same : {A : Type 0} (f g : A → List ℕ) (xs : List A) → ((x : A) → Memᴰ x xs → f x ≡ g x) → joined f xs ≡ joined g xs
unfolding joined
joined_same f g [] h = refl
joined_same f g (x ∷ xs) h = ap₂ (λ (k l : List ℕ). k ++ l) (h x (Memᴰ.head refl)) (joined_same f g xs (λ y m. h y (Memᴰ.tail m)))

pub joined-append : {A : Type 0} (f : A → List ℕ) (xs ys : List A) → joined f (xs ++ ys) ≡ joined f xs ++ joined f ys
unfolding joined
joined-append f [] ys = refl
joined-append f (x ∷ xs) ys = ap (λ (l : List ℕ). f x ++ l) (joined-append f xs ys) ∙ sym (append_assoc (f x) (joined f xs) (joined f ys))

-- each gives c entries
pub length-joined : {A : Type 0} (f : A → List ℕ) (c : ℕ) → ((x : A) → length (f x) ≡ c) → (xs : List A) → length (joined f xs) ≡ c * length xs
unfolding joined
length-joined f c h [] = omega (arith, mul-zero c)
length-joined f c h (x ∷ xs) =
    omega (arith, length-append (f x) (joined f xs), h x, length-joined f c h xs, mul-suc c (length xs))

-- ---- piece by piece

module _ (f : ℕ → List ℕ) (n : ℕ) where
  -- those from i up, of n in all
  abbrev left : ℕ → List ℕ
  left i = joined f (range (n - i) i)

  left_step : (i : ℕ) → i < n → left i ≡ f i ++ left (i + 1)
  unfolding joined range
  left_step i h =
      let e : n - i ≡ suc (n - (i + 1)) = omega arith in
      ap (λ (c : ℕ). joined f (range c i)) e ∙ ap (λ (j : ℕ). f i ++ joined f (range (n - (i + 1)) j)) (sym (add-one i))

  -- the loop over them, from entry `first` of the list on: those from i up are to come, from entry `next` on, and then the list is as it shall be
  pub record WrittenSoFar (first : ℕ) (list₀ : List ℕ) (i next : ℕ) (list : List ℕ) : Type 0 where
    pub short : i ≤ n
    pub size : length list ≡ length list₀
    pub entries : next + length (left i) ≡ first + length (joined f (range n 0))
    pub same : put next (left i) list ≡ put first (joined f (range n 0)) list₀

  -- before the first piece
  pub so-far-start : (first : ℕ) (list : List ℕ) → WrittenSoFar first list 0 first list
  so-far-start first list =
      let e : n - 0 ≡ n = omega arith in
      record {
        short = omega arith;
        size = refl;
        entries = ap (λ (c : ℕ). first + length (joined f (range c 0))) e;
        same = ap (λ (c : ℕ). put first (joined f (range c 0)) list) e;
      }

module _ {f : ℕ → List ℕ} {n first : ℕ} {list₀ : List ℕ} {i next : ℕ} {list : List ℕ} (s : WrittenSoFar f n first list₀ i next list) where
  module _ (h : i < n) where
    pieces-left : length (left f n i) ≡ length (f i) + length (left f n (i + 1))
    pieces-left = ap length (left_step f n i h) ∙ length-append (f i) (left f n (i + 1))

    -- where all pieces have room, piece i has
    pub so-far-room : first + length (joined f (range n 0)) ≤ length list₀ → next + length (f i) ≤ length list
    so-far-room fits = omega (arith, fits, s.size, s.entries, pieces-left)

    -- piece i is written
    pub so-far-put : (behind : ℕ) (l : List ℕ) → behind ≡ next + length (f i) → l ≡ put next (f i) list → WrittenSoFar f n first list₀ (i + 1) behind l
    so-far-put behind l e w = record {
      short = omega arith;
      size = ap length w ∙ length-put next (f i) list ∙ s.size;
      entries = omega (arith, s.entries, e, pieces-left);
      same =
          ap₂ (λ (j : ℕ) (z : List ℕ). put j (left f n (i + 1)) z) e w ∙ sym (put-append next (f i) (left f n (i + 1)) list)
          ∙ ap (λ (xs : List ℕ). put next xs list) (sym (left_step f n i h)) ∙ s.same;
    }

    -- piece i is empty: nothing is written
    pub so_far_skip : f i ≡ [] → WrittenSoFar f n first list₀ (i + 1) next list
    unfolding put
    so_far_skip e = so-far-put next list (let w : length (f i) ≡ 0 = ap length e in omega arith) (ap (λ (xs : List ℕ). put next xs list) (sym e))

  -- behind the last piece
  none_left : n ≤ i → left f n i ≡ []
  unfolding joined range
  none_left h = let e : n - i ≡ 0 = omega arith in ap (λ (c : ℕ). joined f (range c i)) e

  pub so-far-size : n ≤ i → next ≡ first + length (joined f (range n 0))
  so-far-size h = omega (arith, s.entries, ap length (none_left h))

  pub so-far-end : n ≤ i → list ≡ put first (joined f (range n 0)) list₀
  unfolding put
  so-far-end h = ap (λ (xs : List ℕ). put next xs list) (sym (none_left h)) ∙ s.same
