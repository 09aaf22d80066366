-- Which tokens a value is written as.
use Rattle.std.specs.Prelude.{◌≡◌, List, [], ◌∷◌, ◌++◌}
use Rattle.json.specs.Token as token
use Rattle.json.specs.Token.{Token}
use Rattle.serde_json.specs.Data.{Data, null, boolean, number, string, array, object}
use Rattle.serde_json.specs.Data.{Items, no_items, item, Members, no_members, member}
use Rattle.serde_json.specs.Written.{number_text}

-- a token is written after the others
abbrev pub Puts : List Token → List Token → Token → Type 0
Puts old new t = new ≡ old ++ t ∷ []

abbrev mutual
  pub PutsValue : Data → List Token → List Token → Type 0
  PutsValue null old new = Puts old new token.null
  PutsValue (boolean b) old new = Puts old new (token.boolean b)
  PutsValue (number n) old new = Puts old new (token.number (number_text n))
  PutsValue (string s) old new = Puts old new (token.string s)
  PutsValue (array ds) old new = (first : List Token) × Puts old first token.begin_array × PutsItems ds first new
  PutsValue (object ms) old new = (first : List Token) × Puts old first token.begin_object × PutsMembers ms first new

  -- with the end
  pub PutsItems : Items → List Token → List Token → Type 0
  PutsItems no_items old new = Puts old new token.end_array
  PutsItems (item d ds) old new = (mid : List Token) × PutsValue d old mid × PutsItems ds mid new

  pub PutsMembers : Members → List Token → List Token → Type 0
  PutsMembers no_members old new = Puts old new token.end_object
  PutsMembers (member k d ms) old new =
      (named mid : List Token) × Puts old named (token.key k) × PutsValue d named mid × PutsMembers ms mid new
