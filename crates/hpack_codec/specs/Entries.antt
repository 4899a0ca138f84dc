-- The line of an entry of either table.
use Rattle.hpack_codec.specs.Table.{line}
use Rattle.hpack_codec.specs.declared.line.Entry.{Entry}
use Rattle.hpack_codec.specs.declared.line.Entry.TheVariants.{Fixed, Added}
use Rattle.hpack_codec.specs.declared.line.Line.{Line}

abbrev pub entry_line : Entry → Line
entry_line (Fixed row) = line row.name.now row.value.now
entry_line (Added l) = l.now
