-- `jobs::words::Words::word` meets its contract. Assumes nothing.
use Rattle.std.proofs.lemmas.List.Sums.{prefix_len-le-length}
use Rattle.jobs.proofs.words.Words.word.Goals as goal

pub split_at-requires : goal.split_at-requires
split_at-requires c = rw c.word_length.ensures (prefix_len-le-length _ _)
