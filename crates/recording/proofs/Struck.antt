-- What the statements of specs/Promise ask for can be met: of every line that can be written, struck so. Assumes nothing.
use Prim.Native.Nat.{ℕ, ◌<◌, ◌≤◌}
use mathlib.Core.Path.{◌≡◌, sym, subst}
use mathlib.Core.List.{List}
use mathlib.Core.Bool.{cond}
use native.Mathlib.Omega.{arith}
use lib.Count.{ones}
use lib.Dec.{ltb}
use lib.ListN.{length, get_or}
use Rattle.system.specs.Figures.{active_offset, system_of}
use Rattle.system.proofs.Laws.{line_is_parts}
use Rattle.system.specs.Due.{due_with, due_of}
use Rattle.line.specs.Offsets.{due_at}
use Rattle.line.specs.Samples.{Content}
use Rattle.line.specs.Damage.{Near, Damaged, DamagedUpTo, struck}
use Rattle.line.proofs.Images.{every_kind_of_damage}
use Rattle.writer.specs.Write.{write_refusal, line_after}
use Rattle.writer.proofs.Theorems.{due_fits, written_samples_fit, accepted_writes_the_line}
use Rattle.recording.specs.Recording.{in_eav, in_sav, next, line_more, AgreeUpTo, struck_line}
use Rattle.recording.specs.Promise.{TwoInvertedMet, RecordingMet, ImageMet}

module _ (system fall line : ℕ) (c : Content) (buffer : List ℕ) (eav sav : ℕ) (low : ℕ → ℕ)
    (written : (write_refusal system line fall c (length buffer)).number ≡ 0) (he : eav < 128) (hs : sav < 128) (hl : (i : ℕ) → low i < 4) where
  -- the struck line is the written one, damaged in so many bits of each code
  is_damaged : Damaged (due_of (system_of system) line fall) (line_after system line fall c buffer) (struck_line system line fall c buffer eav sav low) (ones eav) (ones sav)
  is_damaged =
      let d = due_of (system_of system) line fall in
      subst (λ (l : List ℕ). Damaged d l (struck d eav sav low l) (ones eav) (ones sav))
      (sym (accepted_writes_the_line system line fall c buffer written).0) (every_kind_of_damage d c ((written_samples_fit system line fall c (length buffer)).0 written).fit.packets eav sav low he hs hl)

  -- so is a line that agrees with it up to an offset, so far
  is_damaged_up_to : (offset : ℕ) (read : List ℕ) → length read ≡ length (line_after system line fall c buffer)
      → offset ≤ length (line_after system line fall c buffer) → AgreeUpTo offset read (struck_line system line fall c buffer eav sav low)
      → DamagedUpTo offset (due_of (system_of system) line fall) (line_after system line fall c buffer) read (ones eav) (ones sav)
  is_damaged_up_to offset read size within agrees =
      record {
        size = size;
        words = λ i l.
            subst (Near (due_at (due_of (system_of system) line fall) i) (cond (ltb i 4) (ones eav) (ones sav)) (get_or (line_after system line fall c buffer) i 0))
            (sym (agrees i l)) (is_damaged.words i (omega arith));
      }

pub two_inverted_met : TwoInvertedMet
two_inverted_met system fall line c buffer eav sav low read written he hs hl size =
    let whole = (accepted_writes_the_line system line fall c buffer written).1 in
    let parts = line_is_parts (system_of system) in
    let d = due_of (system_of system) line fall in
    let left = line_after system line fall c buffer in
    let behind = active_offset (system_of system) in
    let damaged = is_damaged_up_to system fall line c buffer eav sav low written he hs hl in (
      λ two agrees. in_eav buffer written (subst (λ (n : ℕ). DamagedUpTo 4 d left read n (ones sav)) two (damaged 4 read size (omega arith) agrees)),
      λ one two agrees. in_sav buffer written (subst (DamagedUpTo behind d left read (ones eav)) two (damaged behind read size (omega arith) agrees)) one,
    )

pub recording_met : RecordingMet
recording_met system fall line altered c cs reads buffer eav sav low written he hs hl one-eav one-sav rest =
    next buffer written (is_damaged system fall line c buffer eav sav low written he hs hl) one-eav one-sav rest

pub image_met : ImageMet
image_met system line fallen altered l ls reads room eav sav low may written he hs hl one-eav one-sav rest =
    let d = due_with (system_of system) line l.v in
    line_more room may written (every_kind_of_damage d l.content (due_fits d l.content room written).1.packets eav sav low he hs hl) one-eav one-sav rest
