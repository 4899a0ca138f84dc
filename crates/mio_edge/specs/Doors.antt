-- Whether a client may wait at a door, and until when none is accepted.
use Rattle.mio_edge.specs.declared.door.Door.{Door}
use Rattle.std.specs.Prelude.{Bool, false, min, ℕ, ◌+◌, ◌-◌, ◌^◌, ◌≡◌, ◌⊎◌}

-- whatever its inlet is
module _ {I : Type 0} where
  abbrev pub may_wait : Door I → Bool
  may_wait door = door.waits

  -- in milliseconds
  abbrev pub shut_until : Door I → ℕ
  shut_until door = door.until

  pub record SameDoor (old new : Door I) : Type 0 where
    pub waits : may_wait new ≡ may_wait old
    pub until : shut_until new ≡ shut_until old

  -- nobody waits there
  pub record IsEmptied (old new : Door I) : Type 0 where
    pub waits : may_wait new ≡ false
    pub until : shut_until new ≡ shut_until old

  -- the system couldn't give a client: none is accepted for 100 ms
  pub record IsShut (now : ℕ) (old new : Door I) : Type 0 where
    pub waits : may_wait new ≡ may_wait old
    pub until : shut_until new ≡ min (now + 100) (2 ^ 64 - 1)

  abbrev pub Misses : ℕ → Door I → Door I → Type 0
  Misses now old new = SameDoor old new ⊎ (IsEmptied old new ⊎ IsShut now old new)
