use Rattle.std.proofs.Common.{◌≡◌, ◌≤◌, length, take}
use Rattle.h2_session.specs.Preface.{preface}
use Rattle.h2_session.proofs.preface.preface_of.Given as goal

-- so many octets came, and are those of the preface
abbrev pub invariant-loop-place : goal.invariant-loop-place
invariant-loop-place l = (l.place ≤ length l.input) × (take l.place l.input ≡ take l.place preface)
