-- What a stream is owed.
use Rattle.std.specs.Prelude.{min, ℕ}
use Rattle.wire_windows.specs.RecvWindows.{on_window, owing}
use Rattle.wire_windows.specs.declared.recv_stream.RecvStream.{RecvStream}

-- n of the octets that it holds, or all of them, are owed
abbrev pub owing_most : ℕ → RecvStream → RecvStream
owing_most n s = on_window (owing (min n s.window.held)) s
