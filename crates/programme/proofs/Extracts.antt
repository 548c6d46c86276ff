-- Laws of extracting a line: the words of a part of its bytes, each refusal in its turn, the row afterwards, and that an accepted line of
-- V = 0 has samples of ten bits. Assumes nothing.
use Prim.Native.Nat.{ℕ, ◌+◌, ◌-◌, ◌*◌, ◌<◌, ◌≤◌}
use mathlib.Core.Path.{◌≡◌, refl, sym, ap, ap₂, ◌∙◌}
use mathlib.Core.Bool.{Bool, true, false, cond, ◌&&◌}
use mathlib.Core.List.{List}
use native.Mathlib.Omega.{arith}
use lib.Dec.{eqb}
use lib.ListN.{length, get_or, take, drop, length-drop}
use lib.Seq.{ext_get_or, length-take-le, get_or-take, get_or-drop}
use borrow.Author.Tests.{eq-eqb, ne_eqb, eqb-true, eqb-false}
use Rattle.refusal.specs.Numbers.{wrong_length}
use Rattle.refusal.specs.Answer.{none, or_else}
use Rattle.refusal.proofs.Cases.{by_test, not_true}
use Rattle.refusal.proofs.Firsts.{or_else_accepted, or_else_refused, same_number}
use Rattle.refusal.proofs.Tables.{alone}
use Rattle.words.specs.Words.{most_word}
use Rattle.words.specs.Bytes.{word_of_bytes, words_of}
use Rattle.words.proofs.Bytes.{words_length, word_at_is}
use Rattle.system.specs.declared.System.{System}
use Rattle.system.specs.declared.walk.Walk.{Walk}
use Rattle.system.specs.declared.walk.Judgement.{Judgement}
use Rattle.system.specs.Figures.{line_length, active_offset, system_of}
use Rattle.system.specs.Walk.{line_words, line_bytes, due_in}
use Rattle.system.specs.Judgement.{refused_at}
use Rattle.system.proofs.Laws.{line_is_parts, due_system}
use Rattle.line.specs.Samples.{active_length}
use Rattle.line.proofs.Images.{accepted_fit}
use Rattle.line.proofs.Places.{taken_in_place}
use Rattle.reader.specs.Take.{then_taken}
use Rattle.reader.proofs.Judged.{accepted, answered}
use Rattle.reader.proofs.Taken.{then_taken_is, then_refused}
use Rattle.bytewise.specs.Bytes.{bytes_refusal, judged_bytes}
use Rattle.bytewise.proofs.Theorems.{bytes_exact, bytes_refused_stands}
use Rattle.v210.specs.Row.{row_length, packed_of}
use Rattle.programme.specs.Extract.{room_refusal, extract_refusal, extracted_of, gives_row, row_of_line, row_after_line}

-- ---- A part of bytes from a word on has the words of that part.
module _ (bytes : List ℕ) (a n : ℕ) (size : length bytes ≡ 2 * (a + n)) where
  abbrev part : List ℕ
  part = take (2 * n) (drop (2 * a) bytes)

  pub part_length : length part ≡ 2 * n
  part_length = length-take-le (2 * n) (drop (2 * a) bytes) (omega (arith, length-drop (2 * a) bytes))

  part_word : (k : ℕ) → k < n → word_of_bytes part (2 * k) ≡ word_of_bytes bytes (2 * (a + k))
  part_word k l =
      let at : (i : ℕ) → i < 2 * n → get_or part i 0 ≡ get_or bytes (2 * a + i) 0 =
      λ i m. get_or-take (2 * n) (drop (2 * a) bytes) i 0 m ∙ get_or-drop (2 * a) bytes i 0 in
      ap₂ (λ (low high : ℕ). low + 256 * high)
      (at (2 * k) (omega arith) ∙ ap (λ (i : ℕ). get_or bytes i 0) (omega arith))
      (at (2 * k + 1) (omega arith) ∙ ap (λ (i : ℕ). get_or bytes i 0) (omega arith))

  pub words_part_length : length (take n (drop a (words_of bytes))) ≡ n
  words_part_length =
      length-take-le n (drop a (words_of bytes)) (omega (arith, length-drop a (words_of bytes), words_length bytes (a + n) size))

  pub words_part_at : (k : ℕ) → k < n → get_or (take n (drop a (words_of bytes))) k 0 ≡ get_or (words_of bytes) (a + k) 0
  words_part_at k l = get_or-take n (drop a (words_of bytes)) k 0 l ∙ get_or-drop a (words_of bytes) k 0

  pub part_words : words_of part ≡ take n (drop a (words_of bytes))
  part_words =
      let count = words_length part n part_length in
      ext_get_or 0 (words_of part) (take n (drop a (words_of bytes))) (count ∙ sym words_part_length)
      (λ k l.
      let m : k < n = omega (arith, l, count) in
      word_at_is part n part_length k m ∙ part_word k m
      ∙ sym (words_part_at k m ∙ word_at_is bytes (a + n) size (a + k) (omega arith)))

-- ---- With room for a row, extracting refuses and answers as the byte judge does.
module _ (w : Walk) (bytes : List ℕ) (room : ℕ) (has_room : room ≡ row_length) where
  no_refusal : room_refusal room ≡ none
  no_refusal = simp (eq-eqb _ _ has_room)

  pub extract_measured : extract_refusal w bytes room ≡ bytes_refusal w bytes
  extract_measured = ap (or_else (bytes_refusal w bytes)) no_refusal ∙ alone _ (bytes_refusal w bytes) (bytes_exact w bytes)

  pub extracted_judged : extracted_of w bytes room ≡ judged_bytes w bytes
  extracted_judged =
      by_test (eqb (bytes_refusal w bytes).number 0)
      (λ t. then_taken_is w (judged_bytes w bytes) (extract_refusal w bytes room) (same_number extract_measured ∙ eqb-true _ _ t))
      (λ f.
      let n = eqb-false _ _ f in
      ap (then_taken w (judged_bytes w bytes)) extract_measured ∙ then_refused w (judged_bytes w bytes) (bytes_refusal w bytes) n
      ∙ sym (bytes_refused_stands w bytes n))

-- ---- The row afterwards.
and_false : (t : Bool) → (t && false) ≡ false
and_false true = refl
and_false false = refl

module _ (w : Walk) (bytes before : List ℕ) where
  pub row_refused : ((extract_refusal w bytes (length before)).number ≡ 0 → ⊥) → row_after_line w bytes before ≡ before
  unfolding row_after_line
  row_refused n = ap (λ (t : Bool). cond (t && gives_row w bytes) (row_of_line w bytes) before) (ne_eqb _ _ n)

  pub row_blank : gives_row w bytes ≡ false → row_after_line w bytes before ≡ before
  unfolding row_after_line
  row_blank v =
      ap (λ (t : Bool). cond (eqb (extract_refusal w bytes (length before)).number 0 && t) (row_of_line w bytes) before) v
      ∙ ap (λ (t : Bool). cond t (row_of_line w bytes) before) (and_false (eqb (extract_refusal w bytes (length before)).number 0))

  pub row_given : (extract_refusal w bytes (length before)).number ≡ 0 → gives_row w bytes ≡ true → row_after_line w bytes before ≡ row_of_line w bytes
  unfolding row_after_line
  row_given z v = ap₂ (λ (t u : Bool). cond (t && u) (row_of_line w bytes) before) (eq-eqb _ _ z) v

  -- a line that is judged well, refused for the row's length
  pub room_result : (j : Judgement) → (bytes_refusal w bytes).number ≡ 0 → (length before ≡ row_length → ⊥)
      → j ≡ refused_at w (record { number = wrong_length; place = 1 }) → (j ≡ extracted_of w bytes (length before)) × (before ≡ row_after_line w bytes before)
  room_result j well n is =
      let short : extract_refusal w bytes (length before) ≡ record { number = wrong_length; place = 1 } =
      or_else_accepted (bytes_refusal w bytes) (room_refusal (length before)) well ∙ simp (ne_eqb _ _ n) in
      let refuses : (extract_refusal w bytes (length before)).number ≡ 0 → ⊥ = λ z. never (sym (same_number short) ∙ z) in (
        is ∙ sym (then_refused w (judged_bytes w bytes) (extract_refusal w bytes (length before)) refuses ∙ ap (refused_at w) short),
        sym (row_refused refuses),
      )
    where
      never : ◌≡◌ {A = ℕ} wrong_length 0 → ⊥
      never q = omega arith

  -- a line that the byte judge refuses
  pub judge_refused_result : (j : Judgement) → j ≡ judged_bytes w bytes → (j.number ≡ 0 → ⊥)
      → (j ≡ extracted_of w bytes (length before)) × (before ≡ row_after_line w bytes before)
  judge_refused_result j is n =
      let bad : (bytes_refusal w bytes).number ≡ 0 → ⊥ = λ z. n (answered (length bytes) (line_bytes w) w (words_of bytes) j is ∙ z) in
      let same = or_else_refused (bytes_refusal w bytes) (room_refusal (length before)) bad in
      let refuses : (extract_refusal w bytes (length before)).number ≡ 0 → ⊥ = λ z. bad (sym (same_number same) ∙ z) in (
        is ∙ bytes_refused_stands w bytes bad
            ∙ sym (then_refused w (judged_bytes w bytes) (extract_refusal w bytes (length before)) refuses ∙ ap (refused_at w) same),
        sym (row_refused refuses),
      )

  -- ---- With room for a row, what the byte judge answers is the answer.
  module _ (room : length before ≡ row_length) (j : Judgement) (is : j ≡ judged_bytes w bytes) where
    extract_number : (extract_refusal w bytes (length before)).number ≡ j.number
    extract_number = same_number (extract_measured w bytes (length before) room) ∙ sym (answered (length bytes) (line_bytes w) w (words_of bytes) j is)

    pub blank_result : gives_row w bytes ≡ false → (j ≡ extracted_of w bytes (length before)) × (before ≡ row_after_line w bytes before)
    blank_result v = (is ∙ sym (extracted_judged w bytes (length before) room), sym (row_blank v))

    pub given_result : j.number ≡ 0 → gives_row w bytes ≡ true → (row : List ℕ) → row ≡ row_of_line w bytes
        → (j ≡ extracted_of w bytes (length before)) × (row ≡ row_after_line w bytes before)
    given_result z v row e =
        (is ∙ sym (extracted_judged w bytes (length before) room), e ∙ sym (row_given (extract_number ∙ z) v))

-- ---- An accepted line of V = 0: its active part, as the call slices it.
module _ (w : Walk) (bytes : List ℕ) (size : length bytes ≡ line_bytes w) where
  parts : length bytes ≡ 2 * (active_offset (system_of w.system) + active_length)
  parts = omega (arith, size, line_is_parts (system_of w.system))

  abbrev active : List ℕ
  active = take (2 * active_length) (drop (2 * active_offset (system_of w.system)) bytes)

  -- every word of it has ten bits
  small_words : gives_row w bytes ≡ true → (bytes_refusal w bytes).number ≡ 0 → (k : ℕ) → k < active_length
      → get_or (words_of bytes) (active_offset (system_of w.system) + k) 0 ≤ most_word
  unfolding gives_row
  small_words v z k l =
      let words = words_of bytes in
      let system = due_system w (get_or words 3 0) in
      let long = words_length bytes (line_words w) size ∙ ap line_length (sym system) in
      let well = (accepted (length bytes) (line_bytes w) w words z).well in
      let inside = ((accepted_fit (due_in w words) words long well).range (not_true _ v) k l).1 in
      let at = taken_in_place (due_in w words) words k l ∙ ap (λ (s : System). get_or words (active_offset s + k) 0) system in
      omega (arith, inside, at)

  module _ (n : ℕ) (is : n ≡ line_bytes w) where
    sliced : take (n - (n - 2 * active_length)) (drop (n - 2 * active_length) bytes) ≡ active
    sliced =
        let whole = line_is_parts (system_of w.system) in
        let count : n - (n - 2 * active_length) ≡ 2 * active_length = omega (arith, is, whole) in
        let start : n - 2 * active_length ≡ 2 * active_offset (system_of w.system) = omega (arith, is, whole) in
        ap₂ (λ (k m : ℕ). take k (drop m bytes)) count start

    pub sliced_row : packed_of (words_of (take (n - (n - 2 * active_length)) (drop (n - 2 * active_length) bytes))) ≡ row_of_line w bytes
    unfolding row_of_line
    sliced_row =
        ap (λ (l : List ℕ). packed_of (words_of l)) sliced
        ∙ ap packed_of (part_words bytes (active_offset (system_of w.system)) active_length parts)

    pub sliced_small : gives_row w bytes ≡ true → (bytes_refusal w bytes).number ≡ 0 → (k : ℕ) → k < active_length
        → get_or (words_of (take (n - (n - 2 * active_length)) (drop (n - 2 * active_length) bytes))) k 0 ≤ most_word
    sliced_small v z k l =
        let a = active_offset (system_of w.system) in
        let same = ap words_of sliced ∙ part_words bytes a active_length parts in
        omega
        (arith, ap (λ (words : List ℕ). get_or words k 0) same, words_part_at bytes a active_length parts k l, small_words v z k l)
