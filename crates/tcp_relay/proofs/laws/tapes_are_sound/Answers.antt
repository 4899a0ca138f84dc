use Rattle.tcp_relay.proofs.Sessions.{tape_sound}
use Rattle.tcp_relay.proofs.laws.tapes_are_sound.Goals as goal

pub returns : goal.returns
returns c = tape_sound
