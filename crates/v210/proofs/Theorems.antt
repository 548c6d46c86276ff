-- The promises on rows of v210, of the definitions that the calls' contracts cite. Assumes nothing.
use Prim.Native.Nat.{ℕ, ◌<◌, ◌≤◌}
use mathlib.Core.Path.{◌≡◌, refl, sym, ap, ◌∙◌}
use mathlib.Core.List.{List}
use lib.ListN.{length, get_or}
use native.Mathlib.Omega.{arith}
use Rattle.refusal.specs.declared.Refusal.{Refusal}
use Rattle.refusal.specs.Answer.{none}
use Rattle.refusal.proofs.Firsts.{written_accepted, written_refused}
use Rattle.line.specs.Samples.{active_length}
use Rattle.v210.specs.Row.{row_length, unpacked_of, packed_of, spare_refusal, unpack_refusal, pack_refusal, samples_after, row_after}
use Rattle.words.specs.Words.{most_word, over_refusal}
use Rattle.words.proofs.Over.{none_over}
use Rattle.v210.proofs.Refusals.{spare_clear, clear_spare, unpack_measured, pack_measured}
use Rattle.v210.proofs.RoundTrip.{packed_clear, samples_unpacked, row_packed}
-- Each refusal comes exactly when its condition holds and none earlier does, and that leaves one answer only.
pub use Rattle.v210.proofs.Refusals.{unpack_exact, unpack_decides, pack_exact, pack_decides, unpack_accepted, pack_accepted}
-- What a call that is not refused was given.
-- What is unpacked has 1440 samples of ten bits, and what is packed 1920 bytes.
pub use Rattle.v210.proofs.RoundTrip.{unpacked_length, unpacked_small, packed_length}

-- ---- A refused call leaves the buffer as it was; one that is accepted fills it.
pub unpack_refused_keeps : (row samples : List ℕ) → ((unpack_refusal row (length samples)).number ≡ 0 → ⊥) → samples_after row samples ≡ samples
unfolding samples_after
unpack_refused_keeps row samples n = written_refused (unpack_refusal row (length samples)) _ samples n

pub pack_refused_keeps : (samples row : List ℕ) → ((pack_refusal samples (length row)).number ≡ 0 → ⊥) → row_after samples row ≡ row
unfolding row_after
pack_refused_keeps samples row n = written_refused (pack_refusal samples (length row)) _ row n

pub unpack_accepted_fills : (row samples : List ℕ) → (unpack_refusal row (length samples)).number ≡ 0 → samples_after row samples ≡ unpacked_of row
unfolding samples_after
unpack_accepted_fills row samples e = written_accepted (unpack_refusal row (length samples)) _ samples e

pub pack_accepted_fills : (samples row : List ℕ) → (pack_refusal samples (length row)).number ≡ 0 → row_after samples row ≡ packed_of samples
unfolding row_after
pack_accepted_fills samples row e = written_accepted (pack_refusal samples (length row)) _ row e

-- ---- Where the lengths are right, only a spare bit, or a sample of more than ten bits, is refused.
pub spare_none : (row : List ℕ) → length row ≡ row_length → unpack_refusal row active_length ≡ spare_refusal row
spare_none row long = unpack_measured row active_length long refl

pub over_none : (samples : List ℕ) → length samples ≡ active_length → pack_refusal samples row_length ≡ over_refusal samples
over_none samples long = pack_measured samples row_length long refl

-- ---- There and back.
module _ (samples : List ℕ) (long : length samples ≡ active_length) (small : (i : ℕ) → i < active_length → get_or samples i 0 ≤ most_word) where
  -- Samples of ten bits come back.
  pub samples_back : unpacked_of (packed_of samples) ≡ samples
  samples_back = samples_unpacked samples small long

  -- Packing accepts them, and unpacking accepts the row: no spare bit is set.
  pub packed_accepted : (pack_refusal samples row_length ≡ none) × ((unpack_refusal (packed_of samples) active_length).number ≡ 0)
  packed_accepted = (
    over_none samples long ∙ sym (none_over most_word (λ i. get_or samples i 0) (length samples) (λ i l. small i (omega (arith, long)))),
    ap (λ (r : Refusal). r.number)
        (spare_none (packed_of samples) (packed_length samples) ∙ clear_spare (packed_of samples) (packed_clear samples small)),
  )

-- A row of bytes with no spare bit set comes back.
pub row_back : (row : List ℕ) → length row ≡ row_length → ((i : ℕ) → i < row_length → get_or row i 0 < 256) → (spare_refusal row).number ≡ 0
    → packed_of (unpacked_of row) ≡ row
row_back row long bytes clear = row_packed row bytes (spare_clear row clear) long

-- ---- Two results that the contract allows for one input are the same: the answer and every sample or byte.
module _ (given before : List ℕ) (r s : Refusal) (after other : List ℕ) where
  pub unpack_one_result : r ≡ unpack_refusal given (length before) → after ≡ samples_after given before
      → s ≡ unpack_refusal given (length before) → other ≡ samples_after given before → (r ≡ s) × (after ≡ other)
  unpack_one_result a b c d = (a ∙ sym c, b ∙ sym d)

  pub pack_one_result : r ≡ pack_refusal given (length before) → after ≡ row_after given before
      → s ≡ pack_refusal given (length before) → other ≡ row_after given before → (r ≡ s) × (after ≡ other)
  pack_one_result a b c d = (a ∙ sym c, b ∙ sym d)
