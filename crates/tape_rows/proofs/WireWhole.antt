-- Whole tapes of wire sessions, with the witnesses that their marks are true of the octets.
use Rattle.h2_frames.specs.Frame.{Ping, Settings}
use Rattle.h2_frames.specs.Frames.{SpellsFrame}
use Rattle.hpack_codec.specs.Encoding.{integer, varint}
use Rattle.hpack_codec.specs.Table.{Table, empty_table, static_table}
use Rattle.overload_core.specs.ActionStates.{greatest_of}
use Rattle.overload_core.specs.Course.{reached, stay}
use Rattle.scaled_timer.specs.Order.{in_order, placed}
use Rattle.std.proofs.Common.{inl, lit<, lit≤, refl}
use Rattle.std.specs.Prelude.{List, [], codes, drop, false, replicate, ℕ, ◌++◌}
use Rattle.tape_rows.proofs.WireFloods.{config_of_flood_of_pings, flood_of_pings, flood_of_pings_is_lawful}
use Rattle.tape_rows.proofs.WireTapes.{hex}
use Rattle.tape_rows.proofs.WireTimers.{config_of_idle_connection, idle_connection, idle_connection_is_lawful}
use Rattle.wire_laws.specs.Blocks.{TableAfter}
use Rattle.wire_laws.specs.Octets.{HasTaken}
use Rattle.wire_rules.specs.WireTape.{IsWireWhole}

-- a client that sends nothing
pub idle_connection_is_whole : IsWireWhole config_of_idle_connection idle_connection
unfolding static_table varint integer reached stay greatest_of placed in_order
idle_connection_is_whole = record {
  lawful = record {
    lawful = idle_connection_is_lawful.lawful;
    marks = record {
      acts = search;
      frames = search;
      blocks = search;
      all = search (lit<, inl);
    };
  };
  quiet = idle_connection_is_lawful.quiet;
  all = search (lit<, inl);
}

-- ---- a client that floods its connection with PINGs: its octets are the preface, an empty SETTINGS frame and two PINGs
abbrev pub settings_octets : List ℕ
settings_octets = hex (codes "000000040000000000")

abbrev pub ping_octets : List ℕ
ping_octets = hex (codes "0000080600000000000000000000000000")

pub spells_settings : SpellsFrame 16384 settings_octets (Settings false [])
spells_settings = record {
  head = record { len = 0; kind = 4; flags = 0; stream = 0 };
  payload = [];
  begins = record { fits = search (lit<); reserved = false; front = refl };
  whole = refl;
  within = search (lit≤);
  says = search;
}

pub spells_ping : SpellsFrame 16384 ping_octets (Ping false (replicate 8 0))
spells_ping = record {
  head = record { len = 8; kind = 6; flags = 0; stream = 0 };
  payload = replicate 8 0;
  begins = record { fits = search (lit<); reserved = false; front = refl };
  whole = refl;
  within = search (lit≤);
  says = search;
}

pub took_settings : (rest : List ℕ) × HasTaken config_of_flood_of_pings 1 rest (drop 3 flood_of_pings)
took_settings = (
  ping_octets ++ ping_octets,
  record {
    framed = settings_octets ++ (ping_octets ++ ping_octets);
    front = refl;
    frames = (settings_octets, ping_octets ++ ping_octets, refl, spells_settings, refl);
  },
)

pub took_first : (rest : List ℕ) × HasTaken config_of_flood_of_pings 1 rest (drop 2 flood_of_pings)
took_first = (
  ping_octets,
  record {
    framed = settings_octets ++ (ping_octets ++ ping_octets);
    front = refl;
    frames = (settings_octets, ping_octets ++ ping_octets, refl, spells_settings, (ping_octets, ping_octets, refl, spells_ping, refl));
  },
)

pub took_second : (rest : List ℕ) × HasTaken config_of_flood_of_pings 1 rest (drop 1 flood_of_pings)
took_second = (
  [],
  record {
    framed = settings_octets ++ (ping_octets ++ ping_octets);
    front = refl;
    frames = (
      settings_octets,
      ping_octets ++ ping_octets,
      refl,
      spells_settings,
      (ping_octets, ping_octets, refl, spells_ping, (ping_octets, [], refl, spells_ping, refl)),
    );
  },
)

abbrev pub none : Table
none = empty_table 4096

pub after_settings : TableAfter config_of_flood_of_pings 1 (drop 3 flood_of_pings) none
after_settings = (none, refl, (refl, refl))

pub after_first : TableAfter config_of_flood_of_pings 1 (drop 2 flood_of_pings) none
after_first = (none, after_settings, (refl, refl))

pub after_second : TableAfter config_of_flood_of_pings 1 (drop 1 flood_of_pings) none
after_second = (none, after_first, (refl, refl))

pub read_settings : (t : Table) × TableAfter config_of_flood_of_pings 1 (drop 3 flood_of_pings) t
read_settings = (none, after_settings)

pub read_first : (t : Table) × TableAfter config_of_flood_of_pings 1 (drop 2 flood_of_pings) t
read_first = (none, after_first)

pub read_second : (t : Table) × TableAfter config_of_flood_of_pings 1 (drop 1 flood_of_pings) t
read_second = (none, after_second)

pub flood_of_pings_is_whole : IsWireWhole config_of_flood_of_pings flood_of_pings
unfolding static_table varint integer reached stay greatest_of placed in_order
flood_of_pings_is_whole = record {
  lawful = record {
    lawful = flood_of_pings_is_lawful.lawful;
    marks = record {
      acts = flood_of_pings_is_lawful.acts;
      frames = search (took_settings, took_first, took_second);
      blocks = search (read_settings, read_first, read_second);
      all = search (lit<, inl);
    };
  };
  quiet = flood_of_pings_is_lawful.quiet;
  all = search (lit<, inl);
}
