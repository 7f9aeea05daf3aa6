-- What a node gives for a tenant is what the tenant's part of it does by what came for this tenant.
use Rattle.std.specs.Prelude.{◌≡◌, ℕ, List, [], ◌∷◌, ◌==◌, ⊤, None, if◌then◌else◌}
use Rattle.gq_node.specs.declared.shorts.ShortOutput.{ShortOutput}
use Rattle.gq_node.specs.Inputs.{Input, Shortened, does, after_one, after_all}
use Rattle.gq_node.specs.Local.{Local}
use Rattle.gq_node.specs.Shorts.{ShortDoing, wholly, takes_short}
use Rattle.gq_node.specs.ShortSteps.{GivesShortly, ActsShortly}
use Rattle.gq_node.specs.Sites.{Site, site_of}
use Rattle.gq_node.specs.Tables.{Tables, Agrees, Acts}

-- a call of the node: what came for the tenant at that place, and what was given; only a short letter is answered by one
pub record Call : Type 0 where
  pub tenant : ℕ
  pub input : Input
  pub given : ShortOutput

-- what the part does by the input, and which letters go out whole or in short form
abbrev pub does_shortly : Input → Site → Local → ShortDoing
does_shortly (Shortened from short bytes) site local = takes_short from short bytes site local
does_shortly input site local = wholly (does input site local)

-- the calls, one after another, lead from the old tables to the new. So it is at each call of the node: one that answers an `Output` alone gives nothing in
-- short form, and acts so where it `Acts`
abbrev pub Calls : Tables → List Call → Tables → Type 0
Calls old [] new = new ≡ old
Calls old (call ∷ calls) new = (next : Tables) × ActsShortly old call.tenant (does_shortly call.input) call.given next × Calls next calls new

-- what came for the tenant at place t, and what was given for it
abbrev pub inputs_for : ℕ → List Call → List Input
inputs_for t [] = []
inputs_for t (call ∷ calls) = if call.tenant == t then call.input ∷ inputs_for t calls else inputs_for t calls

abbrev pub outputs_for : ℕ → List Call → List ShortOutput
outputs_for t [] = []
outputs_for t (call ∷ calls) = if call.tenant == t then call.given ∷ outputs_for t calls else outputs_for t calls

-- what the part does by each of several, in order
abbrev pub all_shortly : Site → Local → List Input → List ShortDoing
all_shortly site local [] = []
all_shortly site local (input ∷ rest) = does_shortly input site local ∷ all_shortly site (after_one site local input) rest

-- each is what the tenant's part does
abbrev pub AllGive : ℕ → List ShortDoing → List ShortOutput → Type 0
AllGive t [] [] = Unit {0}
AllGive t (doing ∷ doings) (given ∷ outs) = GivesShortly t doing given × AllGive t doings outs
AllGive t _ _ = ⊥

-- this is given for the tenant, and the tables have the part that is left
pub record GoesByPart (site : Site) (new : Tables) (t : ℕ) (local : Local) (came : List Input) (given : List ShortOutput) : Type 0 where
  pub gives : AllGive t (all_shortly site local came) given
  pub agrees : Agrees new t (after_all site local came)

-- whatever came for other tenants between
abbrev pub AllCallsByParts : Type 0
AllCallsByParts = (old new : Tables) (calls : List Call) (t : ℕ) (local : Local) → Calls old calls new → Agrees old t local →
    GoesByPart (site_of old.plan old.here t) new t local (inputs_for t calls) (outputs_for t calls)

-- the input is no short letter
abbrev pub IsWhole : Input → Type 0
IsWhole (Shortened from short bytes) = ⊥
IsWhole input = ⊤

-- each other call of a node acts so, and gives nothing in short form
abbrev pub AllCallsAct : Type 0
AllCallsAct = (old new : Tables) (t : ℕ) (input : Input) (given : ShortOutput) → IsWhole input → Acts old t (does input) given.out new → given.short ≡ None → ActsShortly old t (does_shortly input) given new

-- ---- two runs

-- the same is told, sent and to be kept
pub record GivesTheSame (one two : ShortOutput) : Type 0 where
  pub answer : one.out.answer ≡ two.out.answer
  pub letters : one.out.letters.items ≡ two.out.letters.items
  pub transfer : one.out.transfer ≡ two.out.transfer
  pub fact : one.out.fact ≡ two.out.fact
  pub short : one.short ≡ two.short

abbrev pub AllGiveTheSame : List ShortOutput → List ShortOutput → Type 0
AllGiveTheSame [] [] = Unit {0}
AllGiveTheSame (one ∷ ones) (two ∷ twos) = GivesTheSame one two × AllGiveTheSame ones twos
AllGiveTheSame _ _ = ⊥

-- a node that has the same part of the tenant gives the same for it, where the same came for it, whatever came for others
abbrev pub AllTenantsApart : Type 0
AllTenantsApart = (one two one_new two_new : Tables) (ones twos : List Call) (t : ℕ) (local : Local) → Calls one ones one_new → Calls two twos two_new →
    site_of one.plan one.here t ≡ site_of two.plan two.here t → Agrees one t local → Agrees two t local → inputs_for t ones ≡ inputs_for t twos →
    AllGiveTheSame (outputs_for t ones) (outputs_for t twos)
