-- The statement of specs/Former holds: judging and taking in turn differ from the former order exactly where a word is refused and a buffer
-- has a wrong length. Assumes nothing.
use Prim.Native.Nat.{ℕ, ◌+◌}
use mathlib.Core.Path.{◌≡◌, refl, sym, ap, ◌∙◌}
use mathlib.Core.List.{List, [], ◌∷◌}
use mathlib.Core.Logic.{inl, inr}
use native.Mathlib.Omega.{arith}
use lib.Dec.{eqb}
use lib.ListN.{length}
use borrow.Author.Tests.{eqb-true, eqb-false}
use Rattle.refusal.specs.declared.Refusal.{Refusal}
use Rattle.refusal.specs.Numbers.{wrong_length}
use Rattle.refusal.specs.Answer.{none, or_else, first_of, first_from}
use Rattle.refusal.specs.Table.{Row, Keeps}
use Rattle.refusal.proofs.Cases.{by_test}
use Rattle.refusal.proofs.Firsts.{or_else_accepted, or_else_refused, same_number}
use Rattle.refusal.proofs.Tables.{alone}
use Rattle.words.specs.Words.{tab_from, tab, most_word}
use Rattle.packets.specs.declared.due.What as packet
use Rattle.packets.specs.declared.due.What.TheVariants.{Exactly, Header, Count, User, Checksum}
use Rattle.packets.specs.Fault.{word_at}
use Rattle.packets.specs.Refusals as space
use Rattle.timing.specs.Refusals.{fourth_refusals}
use Rattle.system.specs.declared.due.Due.{Due}
use Rattle.system.specs.declared.walk.Walk.{Walk}
use Rattle.system.specs.declared.System.TheVariants.{Lines525}
use Rattle.system.specs.Figures.{system_number, line_length, is_system, system_of}
use Rattle.system.specs.Due.{due_with}
use Rattle.system.specs.Walk.{walk_refusal, named_refusal, is_line, standing_refusal, line_words, due_by, due_in, fresh_walk}
use Rattle.system.specs.Judgement.{refused_at, judgement_of}
use Rattle.system.proofs.Laws.{judgement_number}
use Rattle.line.specs.declared.What.{What}
use Rattle.line.specs.declared.What.TheVariants.{Ones, Zeros, Fourth, Fill, Sample}
use Rattle.line.specs.Fault.{fault_where, Wanted, within, apart, wanted_at, fault_of, word_refusal, counts_of}
use Rattle.line.specs.Lengths.{buffer_refusal, buffer_refusals}
use Rattle.line.specs.Refusals.{where_refusals, wanted_refusals, offset_refusals, word_refusals}
use Rattle.line.specs.Samples.{Samples}
use Rattle.line.proofs.Theorems.{buffer_exact, words_exact}
use Rattle.reader.specs.Judge.{report_of, judged_of}
use Rattle.reader.specs.Take.{take_refusal, taken_into, Turn, in_turn}
use Rattle.reader.specs.Former.{former, Both, OrderAmended}
use Rattle.reader.proofs.Judged.{line_standing, line_words_are}
use Rattle.reader.proofs.Taken.{then_refused, into_refused, turn_judged}

-- ---- a buffer's refusal is 3, and no word's is
asked_number : (rows : Row) (P : ℕ → Type 0) (r : Refusal) → Keeps rows r → ((s : Refusal) → rows s → P s.number) → (r.number ≡ 0 → ⊥) → P r.number
asked_number rows P r (inl q) of_row n = of_row r q.0
asked_number rows P r (inr q) of_row n = absurd (n (same_number q.1))

buffer_number : (y cb cr : ℕ) (r : Refusal) → buffer_refusals y cb cr r → r.number ≡ wrong_length
buffer_number y cb cr r (inl q) = same_number q.1
buffer_number y cb cr r (inr (_, inl q)) = same_number q.1
buffer_number y cb cr r (inr (_, inr q)) = same_number q.1.1

fourth_number : (fvh w i : ℕ) (r : Refusal) → fourth_refusals fvh w i r → r.number ≡ wrong_length → ⊥
fourth_number fvh w i r (inl q) e = omega (arith, same_number q.1)
fourth_number fvh w i r (inr (_, inl q)) e = omega (arith, same_number q.1)
fourth_number fvh w i r (inr (_, inr (_, inl q))) e = omega (arith, same_number q.1)
fourth_number fvh w i r (inr (_, inr (_, inr q))) e = omega (arith, same_number q.1.1)

where_number : (due : What) (w i : ℕ) (r : Refusal) → where_refusals due w i r → r.number ≡ wrong_length → ⊥
where_number Ones w i r q e = omega (arith, same_number q.1)
where_number Zeros w i r q e = omega (arith, same_number q.1)
where_number (Fourth fvh) w i r q e = fourth_number fvh w i r q e
where_number (Fill word) w i r q e = omega (arith, same_number q.1)
where_number Sample w i r q e = omega (arith, same_number q.1)

space_number : (due : packet.What) (w i : ℕ) (r : Refusal) → space.where_refusals due w i r → r.number ≡ wrong_length → ⊥
space_number (Exactly word) w i r q e = omega (arith, same_number q.1)
space_number Header w i r q e = omega (arith, same_number q.1)
space_number (Count room) w i r (inl q) e = omega (arith, same_number q.1)
space_number (Count room) w i r (inr (_, q)) e = omega (arith, same_number q.1)
space_number User w i r q e = omega (arith, same_number q.1)
space_number (Checksum word) w i r q e = omega (arith, same_number q.1)

wanted_number : (wanted : Wanted) (w i : ℕ) (r : Refusal) → wanted_refusals wanted w i r → r.number ≡ wrong_length → ⊥
wanted_number (within due) w i r q e = space_number due w i r q e
wanted_number (apart due) w i r q e = where_number due w i r q e

offset_number : (d : Due) (words : List ℕ) (i : ℕ) (r : Refusal) → offset_refusals d words i r → r.number ≡ wrong_length → ⊥
offset_number d words i r (inl q) e = omega (arith, same_number q.1)
offset_number d words i r (inr (_, q)) e = wanted_number (wanted_at d (word_at words) i) (word_at words i) i r q e

module _ (w : Walk) (words : List ℕ) (b : Samples) where
  abbrev standing : Refusal
  standing = standing_refusal w (length words) (line_words w)

  abbrev buffers : Refusal
  buffers = buffer_refusal (length b.y) (length b.cb) (length b.cr)

  abbrev word : Refusal
  word = word_refusal (due_in w words) words

  buffers_three : (buffers.number ≡ 0 → ⊥) → buffers.number ≡ wrong_length
  buffers_three n = asked_number (buffer_refusals _ _ _) (λ k. k ≡ wrong_length) buffers (buffer_exact _ _ _) (buffer_number _ _ _) n

  word_no_three : (word.number ≡ 0 → ⊥) → word.number ≡ wrong_length → ⊥
  word_no_three n =
      asked_number (word_refusals (due_in w words) words) (λ k. k ≡ wrong_length → ⊥) word (words_exact (due_in w words) words)
      (λ s q. offset_number (due_in w words) words s.place s q.asked) n

  -- ---- which of the three refuses, in the former order and in the one in force
  abbrev former_refusal : Refusal
  former_refusal = first_of (standing ∷ buffers ∷ word ∷ [])

  alone_buffers : or_else buffers none ≡ buffers
  alone_buffers = alone _ buffers (buffer_exact _ _ _)

  alone_word : or_else word none ≡ word
  alone_word = alone _ word (words_exact (due_in w words) words)

  standing_same : (standing.number ≡ 0 → ⊥) → take_refusal w words b ≡ former_refusal
  standing_same n =
      let line = line_standing (length words) (line_words w) w words n in
      ap (λ (r : Refusal). or_else r buffers) line ∙ or_else_refused standing buffers n ∙ sym (or_else_refused standing _ n)

  module _ (stands : standing.number ≡ 0) where
    taking : take_refusal w words b ≡ or_else word buffers
    taking = ap (λ (r : Refusal). or_else r buffers) (line_words_are (length words) (line_words w) w words stands)

    formerly : former_refusal ≡ or_else buffers word
    formerly = or_else_accepted standing _ stands ∙ ap (or_else buffers) alone_word

    word_well_same : word.number ≡ 0 → take_refusal w words b ≡ former_refusal
    word_well_same z =
        let well : word ≡ none = sym alone_word ∙ or_else_accepted word none z in
        taking ∙ or_else_accepted word buffers z ∙ sym (formerly ∙ ap (or_else buffers) well ∙ alone_buffers)

    buffers_well_same : (word.number ≡ 0 → ⊥) → buffers.number ≡ 0 → take_refusal w words b ≡ former_refusal
    buffers_well_same n z = taking ∙ or_else_refused word buffers n ∙ sym (formerly ∙ or_else_accepted buffers word z)

  same_refusal : (Both w words b → ⊥) → take_refusal w words b ≡ former_refusal
  same_refusal not-both =
      by_test (eqb standing.number 0)
      (λ s. let stands = eqb-true _ _ s in
      by_test (eqb word.number 0) (λ t. word_well_same stands (eqb-true _ _ t))
      (λ f. let bad = eqb-false _ _ f in
      by_test (eqb buffers.number 0) (λ t. buffers_well_same stands bad (eqb-true _ _ t))
      (λ g. absurd (not-both (record { stands = stands; word = bad; buffer = eqb-false _ _ g })))))
      (λ f. standing_same (eqb-false _ _ f))

  -- ---- what comes of that refusal
  abbrev answered_by : Refusal → Turn
  answered_by r =
      record {
        judgement = judgement_of r w (due_in w words) (report_of (due_in w words) words) (counts_of (due_in w words) words);
        buffers = taken_into r (due_in w words) words b;
      }

  turn_answered : in_turn w words b ≡ answered_by (take_refusal w words b)
  turn_answered = rw (turn_judged w words b)

  word_refused : Both w words b → in_turn w words b ≡ record { judgement = refused_at w word; buffers = b }
  word_refused both =
      let e = taking both.stands ∙ or_else_refused word buffers both.word in
      rw e
      (rw (then_refused w (judged_of w words) word both.word, into_refused word (due_in w words) words b both.word))

  not_former : Both w words b → in_turn w words b ≡ former w words b → ⊥
  unfolding former
  not_former both same =
      let number : word.number ≡ former_refusal.number =
      ap (λ (t : Turn). t.judgement.number) (sym (word_refused both) ∙ same)
      ∙ judgement_number former_refusal w (due_in w words) (report_of (due_in w words) words) (counts_of (due_in w words) words) in
      let three = same_number (formerly both.stands ∙ or_else_refused buffers word both.buffer) ∙ buffers_three both.buffer in
      word_no_three both.word (number ∙ three)

-- A word's refusal comes before a sample buffer's; otherwise the two in turn equal the former answer.
pub order_amended : (w : Walk) (words : List ℕ) (b : Samples) → OrderAmended w words b
unfolding former
order_amended w words b =
    record {
      otherwise = λ not-both. turn_answered w words b ∙ ap (answered_by w words b) (same_refusal w words b not-both);
      word_first = word_refused w words b;
      differs = not_former w words b;
    }

-- that there is such a line: words over 1023, and no room for samples
pub both_met : Both (fresh_walk (system_number Lines525) 1) (tab (line_length Lines525) (λ i. most_word + 1)) (record { y = []; cb = []; cr = [] })
unfolding walk_refusal named_refusal is_system is_line system_of or_else due_by due_with word_refusal first_from fault_of fault_where buffer_refusal tab_from
both_met = record { stands = refl; word = λ e. omega (arith, e); buffer = λ e. omega (arith, e) }
