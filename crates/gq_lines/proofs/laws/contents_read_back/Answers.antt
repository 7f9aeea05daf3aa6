use Rattle.gq_lines.proofs.Contents.{bytes_back, content_back}
use Rattle.gq_lines.proofs.laws.contents_read_back.Goals as goal

pub returns : goal.returns
returns c = record { digits = content_back; bytes = bytes_back }
