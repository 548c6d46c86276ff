-- The promises on finishing and on the full check in steps: each is the whole, by what holds of pieces. Assumes nothing.
use Rattle.std.proofs.Common.{ℕ, List, ◌++◌, length, sym, ap, ◌∙◌, ap₂, drop_at}
use mathlib.Core.List.{flatten}
use Rattle.refusal.proofs.Firsts.{same_number}
use Rattle.confirmation.specs.declared.Run.{Run}
use Rattle.confirmation.specs.Run.{header_length, fresh_run, begun_of}
use Rattle.confirmation.proofs.Theorems.{begun_more}
use Rattle.index.specs.Entries.{entries_of}
use Rattle.index.specs.Parts.{line_size, trailer_in, index_in}
use Rattle.index.proofs.Answers.{parts_sound}
use Rattle.index.proofs.Conditions.{sound_conditions}
use Rattle.finished.specs.Finish.{Making, fresh_making, make_body, file_of, finished_of}
use Rattle.finished.specs.Check.{differing, Entire, is_theirs}
use Rattle.finished.specs.Promise.{FinishInSteps, CheckInSteps}
use Rattle.finished.proofs.Theorems.{finish_any_pieces, met_pieces}

pub finish_in_steps : FinishInSteps
unfolding finished_of
finish_in_steps header pieces long =
    let lines = flatten pieces in
    ap (λ (m : Making). file_of m lines) (finish_any_pieces (begun_of header) pieces)
    ∙ ap (λ (r : Run). file_of (make_body (fresh_making r) lines) lines) (sym (begun_more header lines long))
    ∙ ap (λ (body : List ℕ). file_of (make_body (fresh_making (begun_of (header ++ lines))) body) body) (sym (drop_at header lines header_length long))

pub check_in_steps : CheckInSteps
check_in_steps system start file pieces ours accepted lines entire same =
    let made = finish_any_pieces (fresh_run system start) pieces ∙ ap (make_body (fresh_making (fresh_run system start))) lines in
    let fits = sound_conditions (line_size system) (trailer_in file) (index_in file) (length file)
    (parts_sound system start (trailer_in file) (index_in file) (length file) 0 0 (same_number accepted)) in
    let index : Entire (index_in file) = record { count = _; long = fits.fits.entries } in
    ap₂ is_theirs (ap (λ (m : Making). m.finishing.run) made)
    (met_pieces ours (index_in file) entire index
    ∙ ap (λ (bytes : List ℕ). differing (entries_of bytes) (entries_of (index_in file))) (same ∙ ap (λ (m : Making). m.index) made))
