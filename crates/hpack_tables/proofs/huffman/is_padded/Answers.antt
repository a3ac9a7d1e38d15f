use Rattle.hpack_tables.proofs.HuffmanWindow.{padded_short, padded_long}
use Rattle.hpack_tables.proofs.huffman.is_padded.Goals as goal

pub returns-then-window-lt-PADDING : goal.returns-then-window-lt-PADDING
returns-then-window-lt-PADDING c = padded_short c.args.window.len c.args.window.number c.if-window-lt-PADDING.true

pub returns-else-window-lt-PADDING : goal.returns-else-window-lt-PADDING
returns-else-window-lt-PADDING c = padded_long c.args.window.len c.args.window.number c.if-window-lt-PADDING.false
