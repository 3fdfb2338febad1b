use Rattle.suit_envelope.proofs.PayloadPlaces.{put_ascends}
use Rattle.suit_envelope.proofs.law.payload_order_laws.Goals as goal

pub returns : goal.returns
returns c = put_ascends
