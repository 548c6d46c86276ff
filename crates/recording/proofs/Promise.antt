-- The statements of specs/Promise hold: the theorems under their statements' names. Assumes nothing.
pub use Rattle.recording.proofs.Struck.{two_inverted_met, recording_met, image_met}
pub use Rattle.recording.proofs.Falling.{stays_down}
use Rattle.recording.specs.Promise.{ReadsBack, NeverCoincide, TwoInvertedStops, ImageReadsBack, NothingElse, Confirms, ConfirmsImage, RefusesTwoInverted, ConfirmsNothingElse, TrailingBytes, BytePastLimit}
use Rattle.recording.proofs.Theorems.{image_read, recording_reads_back, damaged_never_coincide, two_inverted_refused, read_through_is_image}
use Rattle.recording.proofs.Confirmed.{image_confirmed, recording_confirmed, two_inverted_not_confirmed, confirmed_is_image, trailing_refused, past_limit_refused}

pub reads_back : ReadsBack
reads_back system fall start altered cs reads buffers hf m rec few = recording_reads_back hf rec few buffers m

pub never_coincide : NeverCoincide
never_coincide system fall other start k l cs es reads hf one two few fewer = damaged_never_coincide hf one two few fewer

pub two_inverted_stops : TwoInvertedStops
two_inverted_stops system fall start place altered cs reads c read rest buffers hf m rec few two = two_inverted_refused hf rec few two rest buffers m

pub image_reads_back : ImageReadsBack
image_reads_back system start altered ls reads buffers hf m image few = image_read hf image few buffers m

pub nothing_else : NothingElse
nothing_else system start reads buffers hf m through = read_through_is_image system start hf reads buffers m through

pub confirms : Confirms
confirms bytes system fall start altered cs lines hf holds rec few = recording_confirmed hf holds rec few

pub confirms_image : ConfirmsImage
confirms_image bytes system start altered ls lines hf holds image few = image_confirmed hf holds image few

pub refuses_two_inverted : RefusesTwoInverted
refuses_two_inverted bytes rest bad system fall start place altered cs c lines hf holds rec few two =
    two_inverted_not_confirmed lines bad hf holds rec few two

pub confirms_nothing_else : ConfirmsNothingElse
confirms_nothing_else = confirmed_is_image

pub trailing_bytes_refused : TrailingBytes
trailing_bytes_refused bytes rest system fall start altered cs lines hf holds rec few some short = trailing_refused hf holds rec few some short

pub byte_past_limit_refused : BytePastLimit
byte_past_limit_refused bytes rest system fall start altered cs lines hf holds rec full some = past_limit_refused hf holds rec full some
