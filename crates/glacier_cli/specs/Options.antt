-- What the options of a server say.
use Rattle.std.specs.Prelude.{ℕ, Bool, true, false, ◌&&◌, List, [], ◌∷◌, length, Option, Some, None, option_map, option_and_then, if◌then◌else◌, bytes_eq, codes, nat_le}
use Rattle.std.specs.List.{list_all}
use Rattle.glacier_base.specs.Names.{where_rule}
use Rattle.glacier_http.specs.Fields.{number_of}
use Rattle.glacier_cli.specs.declared.options.Options.{Options}
use Rattle.glacier_cli.specs.declared.options.TheConstants.{MOST_CONNECTIONS, MOST_DELAY}

-- what they say: the address, the region, the seconds of each tier's delay, how many connections are served at most, each
-- where it is said, and whether the store is made
pub record Said : Type 0 where
  pub address : Option (List ℕ)
  pub region : Option (List ℕ)
  pub delay : Option ℕ
  pub connections : Option ℕ
  pub is_new : Bool

-- nothing is said
abbrev pub nothing_said : Said
nothing_said = record { address = None; region = None; delay = None; connections = None; is_new = false }

-- a byte of an address: printable ASCII, and no space
abbrev pub is_address_byte : ℕ → Bool
is_address_byte b = nat_le 33 b && nat_le b 126

-- the rule of an address: 1 to 255 such bytes
abbrev pub is_address : List ℕ → Bool
is_address bytes = nat_le 1 (length bytes) && nat_le (length bytes) 255 && list_all is_address_byte bytes

-- the number, where it lies within these bounds
abbrev pub within : (least most : ℕ) → Option ℕ → Option ℕ
within least most None = None
within least most (Some n) = if nat_le least n && nat_le n most then Some n else None

-- a number of the words: 1 to 8 decimal digits, within these bounds
abbrev pub number_within : (least most : ℕ) → List ℕ → Option ℕ
number_within least most text = within least most (number_of 8 text)

-- what is said now, where it wasn't said before
abbrev pub once : {A : Type 0} → Option A → Option A → Option A
once None now = now
once (Some before) now = None

abbrev pub with_address : List ℕ → Said → Option Said
with_address value said =
    option_map (λ address. record said { address = Some address }) (once said.address (where_rule is_address value))

abbrev pub with_region : List ℕ → Said → Option Said
with_region value said =
    option_map (λ region. record said { region = Some region }) (once said.region (Some value))

abbrev pub with_delay : List ℕ → Said → Option Said
with_delay value said =
    option_map (λ delay. record said { delay = Some delay }) (once said.delay (number_within 0 MOST_DELAY value))

abbrev pub with_connections : List ℕ → Said → Option Said
with_connections value said =
    option_map (λ connections. record said { connections = Some connections })
    (once said.connections (number_within 1 MOST_CONNECTIONS value))

abbrev pub with_new : Said → Option Said
with_new said = if said.is_new then None else Some (record said { is_new = true })

-- an option with its value, which has its rule; that of a region is tested with the form
abbrev pub with_value : (name value : List ℕ) → Said → Option Said
with_value name value said =
    if bytes_eq name (codes "--listen") then with_address value said
    else if bytes_eq name (codes "--region") then with_region value said
    else if bytes_eq name (codes "--delay") then with_delay value said
    else if bytes_eq name (codes "--connections") then with_connections value said
    else None

-- what the words say behind what was said: `--new`, and options with their values, each at most once, in any order
abbrev pub options_of : List (List ℕ) → Said → Option Said
options_of [] said = Some said
options_of (name ∷ []) said = if bytes_eq name (codes "--new") then with_new said else None
options_of (name ∷ value ∷ words) said =
    if bytes_eq name (codes "--new") then option_and_then (options_of (value ∷ words)) (with_new said)
    else option_and_then (options_of words) (with_value name value said)

-- what was read of them
abbrev pub said_by : Options → Said
said_by options = record {
  address = option_map (λ text. text.now) options.address;
  region = option_map (λ text. text.now) options.region;
  delay = options.delay;
  connections = options.connections;
  is_new = options.is_new;
}
