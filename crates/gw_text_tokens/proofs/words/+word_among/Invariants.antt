-- each call has a row fewer
use Rattle.std.proofs.Common.{length}
use Rattle.gw_text_tokens.proofs.words.+word_among.Given as goal

abbrev pub decreases-word_among : goal.decreases-word_among
decreases-word_among l = length l.rows.now
