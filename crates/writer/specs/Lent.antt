-- A sample as its caller lends it, and the caption that it is. Assumes nothing.
use Rattle.writer.specs.declared.Sample.{Sample}
use Rattle.writer.specs.Write.{Caption, caption}

abbrev pub caption_of : Sample → Caption
caption_of s = caption s.u s.sidx s.sdur s.string.now s.modifiers.now
