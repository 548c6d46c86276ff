-- The writer's answers, as each of their tests leaves them, and what is known where nothing is refused. Assumes nothing.
use Prim.Native.Nat.{ℕ, ◌+◌, ◌<◌, ◌≤◌}
use mathlib.Core.Path.{◌≡◌, refl, sym, ap, ◌∙◌}
use mathlib.Core.Bool.{true≢false, not, ◌||◌}
use mathlib.Core.List.{List, [], ◌∷◌}
use mathlib.Core.Logic.{inr}
use native.Mathlib.Omega.{arith}
use lib.Dec.{ltb, eqb}
use lib.ListN.{length}
use borrow.Author.Tests.{eq-eqb, lt-ltb, le-ltb, ltb-false}
use Rattle.refusal.specs.declared.Refusal.{Refusal}
use Rattle.refusal.specs.Numbers.{wrong_length, outside}
use Rattle.refusal.specs.Answer.{none, refuse, or_else, first_of}
use Rattle.refusal.specs.Table.{Keeps}
use Rattle.refusal.proofs.Cases.{by_cond, by_test}
use Rattle.refusal.proofs.Firsts.{or_else_accepted, or_else_none, same_number, not_made, length_due}
use Rattle.refusal.proofs.Tables.{alone, numbers_when, keeps_lowest}
use Rattle.packets.specs.Fault.{ready_refusal}
use Rattle.system.specs.declared.due.Due.{Due}
use Rattle.system.specs.Figures.{line_length, sav_offset, active_offset}
use Rattle.words.specs.Words.{least_sample, most_sample}
use Rattle.words.proofs.Passes.{reserved_test}
use Rattle.line.specs.Fault.{between_offset}
use Rattle.line.specs.Lengths.{length_refusal, buffer_refusal, active_room, room_refusal}
use Rattle.line.specs.Samples.{Samples, Packets, Content, active_length, sample_at, part_samples}
use Rattle.line.specs.Fit.{Carried}
use Rattle.writer.specs.Refusals.{sample_refusals}
use Rattle.writer.specs.Write.{outside_at, sample_refusal, packets_refusal, due_refusal, part_refusal, part_content}
use Rattle.writer.proofs.Places.{samples_blank, samples_picture}

-- ---- 12 at the lowest place, where V is 0
pub samples_exact : (d : Due) (p : Samples) → Keeps (sample_refusals d p) (sample_refusal d p)
samples_exact d p =
    by_test d.v
    (λ v. rw (samples_blank p d v) (inr (λ r q. true≢false (sym v ∙ q.asked.0.0), refl)))
    (λ v. rw (samples_picture p d v)
    (keeps_lowest _ (outside_at p) active_length
    (λ place l. numbers_when (ltb (sample_at p place) least_sample || ltb most_sample (sample_at p place)) _ outside place
    (λ t. (v, (reserved_test (sample_at p place)).0 t)) (λ q. (reserved_test (sample_at p place)).1 q.1) (λ z. omega arith))))

-- ---- how many ready words each space holds: the active part no more than it has words
pub most_room : (d : Due) → active_room d ≤ active_length
most_room d = by_cond (λ n. n ≤ active_length) d.v active_length 0 (λ t. omega arith) (λ t. omega arith)

module _ (d : Due) (between active : ℕ) where
  pub room_between : sav_offset d.system < between_offset + between → record { number = wrong_length; place = 4 } ≡ room_refusal d between active
  unfolding room_refusal or_else
  room_between l = simp (lt-ltb _ _ l)

  module _ (b : between_offset + between ≤ sav_offset d.system) where
    pub room_active : active_room d < active → record { number = wrong_length; place = 5 } ≡ room_refusal d between active
    unfolding room_refusal or_else
    room_active l = simp (le-ltb _ _ b, lt-ltb _ _ l)

    pub room_accepted : active ≤ active_room d → room_refusal d between active ≡ none
    unfolding room_refusal or_else
    room_accepted a = simp (le-ltb _ _ b, le-ltb _ _ a)

  pub room_passed : (room_refusal d between active).number ≡ 0 → (between_offset + between ≤ sav_offset d.system) × (active ≤ active_room d)
  unfolding room_refusal
  room_passed e =
      let first = or_else_none (refuse (ltb (sav_offset d.system) (between_offset + between)) wrong_length 4) _ e in
      let second = or_else_none (refuse (ltb (active_room d) active) wrong_length 5) none first.1 in
      (fits _ _ 4 first.0, fits _ _ 5 second.0)
    where
      fits : (m n p : ℕ) → (refuse (ltb m n) wrong_length p).number ≡ 0 → n ≤ m
      fits m n p z = ltb-false m n (not_made (ltb m n) wrong_length p (λ q. omega arith) z)

-- ---- ready packet words: their lengths, then those of the space between, then those of the active part
module _ (d : Due) (k : Packets) where
  abbrev pub lengths_refusal : Refusal
  lengths_refusal = room_refusal d (length k.between) (length k.active)

  abbrev pub between_refusal : Refusal
  between_refusal = ready_refusal between_offset k.between

  abbrev pub active_refusal : Refusal
  active_refusal = ready_refusal (active_offset d.system) k.active

  pub packets_passed : (packets_refusal d k).number ≡ 0 → Carried d k
  unfolding packets_refusal
  packets_passed e =
      let first = or_else_none lengths_refusal _ e in
      let second = or_else_none between_refusal _ first.1 in
      let third = or_else_none active_refusal none second.1 in
      let room = room_passed d (length k.between) (length k.active) first.0 in
      record { within_between_room = room.0; within_active_room = room.1; between_well = second.0; active_well = third.0 }

  pub carried_accepted : Carried d k → packets_refusal d k ≡ none
  unfolding packets_refusal
  carried_accepted c =
      let room = room_accepted d (length k.between) (length k.active) c.within_between_room c.within_active_room in
      or_else_accepted lengths_refusal _ (same_number room) ∙ or_else_accepted between_refusal _ c.between_well
      ∙ or_else_accepted active_refusal none c.active_well

-- ---- the line's length, then other lengths, then the ready packet words, then the samples: so for three buffers and for an active part
module _ (d : Due) (c : Content) (others : Refusal) (room : ℕ) where
  -- what refuses the content, once the lengths are right
  abbrev carried : Refusal
  carried = or_else (packets_refusal d c.packets) (sample_refusal d c.samples)

  abbrev answer : Refusal
  answer = first_of (length_refusal d.system room ∷ others ∷ packets_refusal d c.packets ∷ sample_refusal d c.samples ∷ [])

  only_carried : room ≡ line_length d.system → others.number ≡ 0 → carried ≡ answer
  only_carried sized e =
      let no_length : (length_refusal d.system room).number ≡ 0 = simp (eq-eqb _ _ sized) in
      sym
      (or_else_accepted (length_refusal d.system room) _ no_length ∙ or_else_accepted others _ e
      ∙ ap (or_else (packets_refusal d c.packets)) (alone _ (sample_refusal d c.samples) (samples_exact d c.samples)))

  pub record Passed : Type 0 where
    pub words : room ≡ line_length d.system
    pub lengths : others.number ≡ 0
    pub packets : Carried d c.packets
    pub samples : (sample_refusal d c.samples).number ≡ 0

  passed : answer.number ≡ 0 → Passed
  passed e =
      let first = or_else_none (length_refusal d.system room) _ e in
      let second = or_else_none others _ first.1 in
      let third = or_else_none (packets_refusal d c.packets) _ second.1 in
      let fourth = or_else_none (sample_refusal d c.samples) none third.1 in
      record {
        words = length_due room (line_length d.system) 0 first.0;
        lengths = second.0;
        packets = packets_passed d c.packets third.0;
        samples = fourth.0;
      }

-- ---- three buffers
module _ (d : Due) (c : Content) (room : ℕ) where
  abbrev pub buffers_refusal : Refusal
  buffers_refusal = buffer_refusal (length c.samples.y) (length c.samples.cb) (length c.samples.cr)

  pub due_samples : room ≡ line_length d.system → buffers_refusal.number ≡ 0 → (packets_refusal d c.packets).number ≡ 0
      → sample_refusal d c.samples ≡ due_refusal d c room
  unfolding due_refusal
  due_samples sized e z = sym (or_else_accepted (packets_refusal d c.packets) _ z) ∙ only_carried d c buffers_refusal room sized e

  pub due_passed : (due_refusal d c room).number ≡ 0 → Passed d c buffers_refusal room
  unfolding due_refusal
  due_passed e = passed d c buffers_refusal room e

-- ---- an active part
module _ (d : Due) (part : List ℕ) (k : Packets) (room : ℕ) where
  abbrev pub long_refusal : Refusal
  long_refusal = refuse (not (eqb (length part) active_length)) wrong_length 1

  pub part_carried : room ≡ line_length d.system → length part ≡ active_length
      → or_else (packets_refusal d k) (sample_refusal d (part_samples part)) ≡ part_refusal d part k room
  unfolding part_refusal
  part_carried sized long =
      let no_length : long_refusal.number ≡ 0 = simp (eq-eqb _ _ long) in only_carried d (part_content part k) long_refusal room sized no_length
