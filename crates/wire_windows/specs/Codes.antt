-- How the values that are seen are told apart: each is stored as the tuple of its fields.
use Rattle.h2_windows.specs.RecvWindow.{Receiving}
use Rattle.h2_windows.specs.SendWindow.{Sending}
use Rattle.std.specs.Coded.{Coded, code_by, coded_bool, coded_ℕ, coded_ℤ, coded×}
use Rattle.std.specs.FinMap as map
use Rattle.std.specs.Prelude.{Bool, refl, ℕ, ℤ}
use Rattle.wire_windows.specs.RecvWindows.{RecvStreams, RecvWindows}
use Rattle.wire_windows.specs.SendWindows.{SendStreams, SendWindows}
use Rattle.wire_windows.specs.declared.recv_stream.RecvStream.{RecvStream}

abbrev pub receiving_code : Coded Receiving
receiving_code = code_by (ℕ × (ℕ × (ℕ × ℕ))) (coded× coded_ℕ (coded× coded_ℕ (coded× coded_ℕ coded_ℕ)))
    (λ w. (w.window, (w.left, (w.held, w.owed)))) (λ p. record { window = p.0; left = p.1.0; held = p.1.1.0; owed = p.1.1.1 }) (λ _. refl)

abbrev pub sending_code : Coded Sending
sending_code = code_by (ℕ × ℤ) (coded× coded_ℕ coded_ℤ) (λ w. (w.initial, w.room)) (λ p. record { initial = p.0; room = p.1 }) (λ _. refl)

abbrev pub recv_stream_code : Coded RecvStream
recv_stream_code = code_by (Receiving × Bool) (coded× receiving_code coded_bool) (λ s. (s.window, s.ended)) (λ p. record { window = p.0; ended = p.1 }) (λ _. refl)

abbrev pub recv_windows_code : Coded RecvWindows
recv_windows_code = code_by (Receiving × (ℕ × (ℕ × (ℕ × RecvStreams)))) (coded× receiving_code (coded× coded_ℕ (coded× coded_ℕ (coded× coded_ℕ (map.code coded_ℕ recv_stream_code)))))
    (λ w. (w.conn, (w.first, (w.stray, (w.stream_window, w.streams)))))
    (λ p. record { conn = p.0; first = p.1.0; stray = p.1.1.0; stream_window = p.1.1.1.0; streams = p.1.1.1.1 }) (λ _. refl)

abbrev pub send_windows_code : Coded SendWindows
send_windows_code = code_by (Sending × (ℕ × (ℕ × SendStreams))) (coded× sending_code (coded× coded_ℕ (coded× coded_ℕ (map.code coded_ℕ sending_code))))
    (λ w. (w.conn, (w.initial, (w.payload, w.streams)))) (λ p. record { conn = p.0; initial = p.1.0; payload = p.1.1.0; streams = p.1.1.1 }) (λ _. refl)
