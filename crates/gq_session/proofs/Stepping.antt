-- What a session is after a step, put together from its parts.
use Rattle.std.proofs.Common.{◌≡◌, ℕ, Bool, List, [], ◌∷◌, ◌++◌, subst}
use Rattle.gq_grid.specs.Grid.{Servers}
use Rattle.gq_tag.specs.declared.Message.{Message}
use Rattle.gq_cell.specs.declared.letter.Letter.{Letter}
use Rattle.gq_model.specs.declared.events.Line.{Line}
use Rattle.gq_model.specs.declared.said.Said.{Said}
use Rattle.gq_session.specs.Sessions.{Sitting, AsksNext, HearsLetter, Retries, is_stuck}
use Rattle.gq_session.specs.Works.{AsksAs, HearsIn, RetriesIn}
use Rattle.gq_session.specs.declared.records.Did.TheVariants.{Asked, Heard, Retried}

-- the next request is asked of a session that is seen so, where these servers are up
pub asks-next : (seen old new : Sitting) (up before : Servers) (stamp : ℕ) (messages : List Message) (line : Line) (said : Said) →
    seen ≡ old → seen.left ≡ line ∷ new.left → before ≡ up → new.home ≡ seen.home →
    AsksAs seen.home seen.work new.work before line said messages →
    new.entries ≡ seen.entries ++ record { stamp = stamp; did = Asked line; said = said } ∷ [] →
    AsksNext old new up stamp messages
asks-next seen old new up before stamp messages line said is next same home asks more =
    let here : AsksNext seen new up stamp messages = record {
      line = line;
      rest = new.left;
      next = next;
      said = said;
      asks = subst (λ (servers : Servers). AsksAs seen.home seen.work new.work servers line said messages) same asks;
      left = λ i. record { home = home i; work = new.work; left = new.left; entries = more i };
    } in
    subst (λ (s : Sitting). AsksNext s new up stamp messages) is here

-- a letter is heard by a session that is seen so
pub hears-letter : (seen old new : Sitting) (up before : Servers) (letter : Letter) (stamp : ℕ) (messages : List Message) (said : Said) (stuck : Bool) →
    seen ≡ old → before ≡ up → new.home ≡ seen.home → new.left ≡ seen.left →
    HearsIn seen.work.operation seen.work new.work before letter.message said messages →
    new.entries ≡ seen.entries ++ record { stamp = stamp; did = Heard letter; said = said } ∷ [] →
    stuck ≡ is_stuck said →
    HearsLetter old new up letter stamp messages stuck
hears-letter seen old new up before letter stamp messages said stuck is same home left hears more waits =
    let here : HearsLetter seen new up letter stamp messages stuck = record {
      said = said;
      hears = subst (λ (servers : Servers). HearsIn seen.work.operation seen.work new.work servers letter.message said messages) same hears;
      left = λ i. record { home = home i; work = new.work; left = left i; entries = more i };
      waits = waits;
    } in
    subst (λ (s : Sitting). HearsLetter s new up letter stamp messages stuck) is here

-- the round's message is sent once more by a session that is seen so
pub retries : (seen old new : Sitting) (up before : Servers) (stamp : ℕ) (messages : List Message) (said : Said) (stuck : Bool) →
    seen ≡ old → before ≡ up → new.home ≡ seen.home → new.work ≡ seen.work → new.left ≡ seen.left →
    RetriesIn seen.work.operation before said messages →
    new.entries ≡ seen.entries ++ record { stamp = stamp; did = Retried; said = said } ∷ [] →
    stuck ≡ is_stuck said →
    Retries old new up stamp messages stuck
retries seen old new up before stamp messages said stuck is same home work left again more waits =
    let here : Retries seen new up stamp messages stuck = record {
      said = said;
      retries = subst (λ (servers : Servers). RetriesIn seen.work.operation servers said messages) same again;
      left = λ i. record { home = home i; work = work i; left = left i; entries = more i };
      waits = waits;
    } in
    subst (λ (s : Sitting). Retries s new up stamp messages stuck) is here
