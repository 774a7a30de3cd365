-- The ways out of `implied_needs`, by what it has tested. Assumes nothing.
use Rattle.std.specs.Prelude.{◌≡◌, Bool, true, false, ℕ, ◌-◌, ◌/◌, ◌≤◌, ◌<◌, leb, Result, Ok, Err}
use Rattle.std.proofs.Math.Path.{refl, sym, ap, ap₂}
use Rattle.std.proofs.Common.{◌∙◌}
use mathlib.Core.List.{List}
use native.Mathlib.Omega.{arith}
use Rattle.std.proofs.Math.ListN.{length}
use Rattle.rules.specs.Sizes.{pairs_size}
use Rattle.rules.specs.Basics.{at}
use Rattle.rules.specs.Fields.{Answer, refused, got, ask, after, number_of}
use Rattle.rules.specs.Needs.{Need, NeedsIn, Circle, circle_free}
use Rattle.rules.specs.JobFile.{JobFile, read_file}
use Rattle.rules.specs.Implied.{implied_needs, implied_in, Listing, pair_numbers, listed, list_implied}
use Rattle.laws.specs.Tests.{T_true, T-leb, choose_yes, choose_no}
use Rattle.laws.specs.Writing.{put, put_front}
use Rattle.laws.specs.Numbers.{bytes-all}
use Rattle.laws.specs.JobFile.{readable, needs-in}
use Rattle.laws.specs.Circles.{circle-free}
use Rattle.laws.specs.Implied.{pairs-length}
use Rattle.laws.proofs.Implied.{list-fits}
use Rattle.needrows.specs.Rows.{rows_size, RowsAre}
use Rattle.refusals.specs.declared.Refusal.{Refusal}
use Rattle.refusals.specs.declared.Refusal.TheVariants.{ShortBuffer, Circle as Circle·refused}
use Rattle.refusals.specs.Refusals.{number}
use Rattle.jobfile.specs.declared.Counts.{Counts}
use Rattle.jobfile.specs.Reading.{state_of, Held, Reads}
use Rattle.jobfile.specs.Whole.{reads-no, reads-yes}
use Rattle.releases.specs.Ordered.{OfNeeds, OrderOf, Peeled}
use Rattle.releases.specs.Sorted.{rows_of}
use Rattle.implied.specs.Beyond.{RowsThere, BeyondAre}
use Rattle.implied.specs.Listing.{follows_from, rows_from, listing_of, listed_number}
use Rattle.implied.specs.ListingLaws.{follows-are}

-- ---- the ways out

-- question 1
pub no_room : (file list : List ℕ) → length list < pairs_size → listing_of (Err ShortBuffer) list ≡ list_implied file list
unfolding list_implied listing_of
no_room file list h = sym (choose_no (leb pairs_size (length list)) _ _ (λ t. omega (arith, (T-leb pairs_size (length list)).0 t)))

module _ (file list : List ℕ) (room : pairs_size ≤ length list) where
  -- what the answer to the file leads to
  leads : (r : Answer (List Need)) → implied_in file ≡ r → list_implied file list ≡ listed r list
  unfolding list_implied
  leads r e = choose_yes (leb pairs_size (length list)) _ _ ((T-leb pairs_size (length list)).1 room) ∙ ap (λ (x : Answer (List Need)). listed x list) e

  -- a refusal by a question
  refused-by : (q : Refusal) → implied_in file ≡ refused (number q) → listing_of (Err q) list ≡ list_implied file list
  unfolding listed listing_of
  refused-by q e = sym (leads (refused (number q)) e)

  -- questions 2 to 10, and 21
  pub file-refused : (q : Refusal) (offsets takers : List ℕ) → Reads file (Err q) offsets takers → listing_of (Err q) list ≡ list_implied file list
  unfolding implied_in after
  file-refused q offsets takers reads = refused-by q (rw (reads-no file q offsets takers reads) refl)

-- there is room for a list, and the file is read
pub record FileRead (file list : List ℕ) (F : Counts) (offsets takers : List ℕ) : Type 0 where
  pub room : pairs_size ≤ length list
  pub bytes : (i : ℕ) → at file i < 256
  pub reads : Reads file (Ok F) offsets takers
  pub rows-room : rows_size ≤ length takers

module _ {file list : List ℕ} {F : Counts} {offsets takers : List ℕ} (r : FileRead file list F offsets takers) where
  -- what it says, and what the reader holds of it
  file-got : (f : JobFile) × (read_file file ≡ got f) × Held file f (state_of F offsets takers)
  file-got = reads-yes file F offsets takers r.reads

  -- how many jobs it has, and its needs
  abbrev n : ℕ
  n = F.jobs

  needs : List Need
  needs = file-got.0.needs

  held : Held file file-got.0 (state_of F offsets takers)
  held = file-got.2

  -- the needs are between its jobs
  file-needs : NeedsIn n needs
  unfolding needs
  file-needs g k m =
      let w = needs-in file-got.0 (readable file (bytes-all file r.bytes) file-got.0 file-got.1) g k m in
      (omega (arith, w.0, held.jobs-is), omega (arith, w.1, held.jobs-is))

  -- and the rows of takers hold them
  rows_are : RowsAre takers n needs
  unfolding needs
  rows_are = held.rows_are

  pub of-needs : OfNeeds takers n
  of-needs = record {
    jobs-few = held.few;
    rows_fit = omega (arith, r.rows-room, held.few);
    needs = needs;
    needs-in = file-needs;
    rows_are = rows_are;
  }

  -- the jobs are peeled, by all needs that the rows hold
  abbrev pub PeeledSo : Bool → List ℕ → List ℕ → Type 0
  PeeledSo ok order releases = (ns : List Need) → NeedsIn n ns → RowsAre takers n ns → Peeled n ns ok order releases

  -- and there is no circle
  pub record NoCircle (order : List ℕ) : Type 0 where
    pub ok : Bool
    pub releases : List ℕ
    pub peeled : PeeledSo ok order releases
    pub free : ok ≡ true

  -- the rows of the jobs beyond each are filled
  pub record BeyondFilled (beyond : List ℕ) : Type 0 where
    pub beyond-are : BeyondAre takers n beyond
    pub beyond-room : rows_size ≤ length beyond

  module _ {ok : Bool} {order releases : List ℕ} (peeled : PeeledSo ok order releases) where
    free-is : circle_free n needs ≡ ok
    free-is = sym (peeled needs file-needs rows_are).answer

    -- what is left to ask
    asked : implied_in file ≡ ask ok 11 (got (implied_needs n needs))
    unfolding implied_in after needs
    asked = rw file-got.1 (rw (← held.jobs-is) (rw free-is refl))

    -- question 11
    pub circle : ok ≡ false → listing_of (Err Circle·refused) list ≡ list_implied file list
    unfolding ask
    circle e = refused-by file list r.room Circle·refused (asked ∙ rw e refl)

  module _ {order : List ℕ} (no-circle : NoCircle order) where
    free : ¬ (Circle needs)
    free = (circle-free n needs file-needs).0 ((T_true (circle_free n needs)).1 (free-is no-circle.peeled ∙ no-circle.free))

    -- the order is one of the needs
    pub order-of : OrderOf takers n order
    unfolding of-needs needs
    order-of = record { of-needs = of-needs; sorted = (no-circle.peeled needs file-needs rows_are).sorted no-circle.free }

    module _ {beyond : List ℕ} (filled : BeyondFilled beyond) where
      pub rows-there : RowsThere takers n beyond
      rows-there = record { rows_of = rows_of takers n of-needs; room = omega (arith, filled.beyond-room, held.few) }

      -- the pairs of all givers
      abbrev rows : List ℕ
      rows = rows_from takers beyond n 0

      -- they are the rules' list, and there is room for them
      rows_is : rows ≡ pair_numbers (implied_needs n needs)
      unfolding implied_needs
      rows_is =
          let few : n ≤ 448 = omega (arith, held.few) in
          let e : n - 0 ≡ n = omega arith in
          ap (λ (c : ℕ). pair_numbers (follows_from takers beyond n c 0)) e
          ∙ ap pair_numbers (follows-are takers beyond n needs few file-needs free rows_are (filled.beyond-are needs file-needs rows_are) n 0 (omega arith))

      pub rows_fit : length rows ≤ length list
      unfolding needs
      rows_fit = omega (
        arith,
        r.room,
        ap length rows_is,
        ap (λ (n : ℕ). length (pair_numbers (implied_needs n file-got.0.needs))) held.jobs-is,
        list-fits file (bytes-all file r.bytes) file-got.0 file-got.1 free,
      )

      -- the list is written
      pub all_listed : listing_of (Ok (length rows / 2)) (put 0 rows list) ≡ list_implied file list
      unfolding ask listed listing_of
      all_listed =
          let ds = implied_needs n needs in
          let half : length rows / 2 ≡ length ds = omega (arith, ap length rows_is, pairs-length ds) in
          ap₂ (λ (k : ℕ) (l : List ℕ). record { answer = got k; list = l }) half (put_front rows list rows_fit ∙ rw rows_is refl)
          ∙ sym (leads file list r.room (got ds) (asked no-circle.peeled ∙ rw no-circle.free refl))

-- ---- the number

-- it is that of the rules' listing
pub listed-number : (file list after : List ℕ) (r : Result ℕ Refusal) → listing_of r after ≡ list_implied file list
    → listed_number r ≡ number_of (list_implied file list).answer
listed-number file list after r e = same r ∙ ap (λ (x : Listing). number_of x.answer) e
  where
    same : (r : Result ℕ Refusal) → listed_number r ≡ number_of (listing_of r after).answer
    same (Ok n) = unfold listed_number listing_of number_of in refl
    same (Err q) = unfold listed_number listing_of number_of in refl
