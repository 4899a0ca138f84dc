-- What a fault says of the octets.
use Rattle.std.specs.Prelude.{ℕ, List}
use Rattle.huffman.specs.Huffman.{octet_bits}
use Rattle.huffman.specs.Reading.{SpellsNone}
use Rattle.huffman.specs.declared.fault.HuffmanFault.{HuffmanFault}
use Rattle.huffman.specs.declared.fault.HuffmanFault.TheVariants.{NoMemory, BadHuffman}

-- only octets that are no text's string are refused, but for lack of memory
abbrev pub Refuses : HuffmanFault → List ℕ → Type 0
Refuses NoMemory octets = Unit {0}
Refuses BadHuffman octets = SpellsNone (octet_bits octets)
