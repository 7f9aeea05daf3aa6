-- Words that the code puts together.
use Rattle.std.specs.Prelude.{◌≡◌, ℕ, List, [], ◌∷◌, ◌++◌, decimal, map}
use Rattle.gq_grid.specs.Grid.{rising}
use Rattle.gq_grid.specs.Sets.{servers}
use Rattle.gq_text.specs.declared.pieces.Piece.{Piece}
use Rattle.gq_text.specs.declared.pieces.Piece.TheVariants.{Text, Number, OfTag, Range, Content, Bytes, Servers, Volumes, Files}
use Rattle.gq_lines.specs.Words.{Word}
use Rattle.gq_lines.specs.Written.{bytes_word, content_word}
use Rattle.gq_text.specs.AnswerText.{volume_word, file_word, tag_words, range_words}

-- the words that a piece stands for
abbrev pub words_in : Piece → List Word
words_in (Text word) = word.now ∷ []
words_in (Number n) = decimal n ∷ []
words_in (OfTag tag) = tag_words tag
words_in (Range first count) = range_words first count
words_in (Content bytes) = content_word bytes.now ∷ []
words_in (Bytes bytes) = bytes_word bytes.now ∷ []
words_in (Servers grid set) = map decimal (rising grid.now (servers set))
words_in (Volumes volumes) = map volume_word volumes.now
words_in (Files files) = map file_word files.now
