-- The fields of a watermark buffer as the value that contracts see.
use Rattle.wm_buffer.specs.Buffer.{Buffer}
use Rattle.wm_buffer.specs.declared.buffer.WatermarkBuffer.TheInside.{Inside}

abbrev pub buffer_of : Inside → Buffer
buffer_of b = record { octets = b.store.octets; limit = b.watermark.limit; above = b.watermark.above; spare = b.store.spare }
