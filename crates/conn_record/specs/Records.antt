-- The texts of recordings and replies.
use Rattle.std.specs.Prelude.{◌≡◌, ℕ, ◌≤◌, ◌⊎◌, List, [], ◌∷◌, ◌++◌, length, codes, decimal}
use Rattle.std.specs.List.{flat_map}
use Rattle.conn_record.specs.declared.read.TheConstants.{MAX_CONNS}

-- a connection: the number of its octets, and the octets
abbrev pub conn_text : List ℕ → List ℕ
conn_text octets = codes "conn " ++ decimal (length octets) ++ 10 ∷ octets ++ 10 ∷ []

abbrev pub conns_text : List (List ℕ) → List ℕ
conns_text conns = flat_map conn_text conns

abbrev pub record_text : List (List ℕ) → List ℕ
record_text conns = codes "kjrec 1\n" ++ conns_text conns

abbrev pub reply_text : List (List ℕ) → List ℕ
reply_text conns = codes "kjrep 1\n" ++ conns_text conns

-- no connection stands at the front
abbrev pub HasNoConn : List ℕ → Type 0
HasNoConn bytes = (conn rest : List ℕ) → bytes ≡ conn_text conn ++ rest → ⊥

-- the bytes are the text of a recording of these connections
pub record IsRecording (bytes : List ℕ) (conns : List (List ℕ)) : Type 0 where
  pub few : length conns ≤ MAX_CONNS
  pub text : bytes ≡ record_text conns

-- the bytes are the text of no recording
abbrev pub IsNoRecording : List ℕ → Type 0
IsNoRecording bytes = (conns : List (List ℕ)) → IsRecording bytes conns → ⊥

-- The bytes begin with the text of a recording. Up to its end some recording goes on as the bytes do.
pub record BeginsWith (bytes : List ℕ) (conns : List (List ℕ)) : Type 0 where
  pub few : length conns ≤ MAX_CONNS
  pub rest : List ℕ
  pub text : bytes ≡ record_text conns ++ rest

-- So many connections are whole before the first octet after which the bytes are no recording's, or before their end:
-- it is the largest number of connections of a recording that the bytes begin with, and 0 where they begin with none.
pub record IsWholeUpTo (bytes : List ℕ) (whole : ℕ) : Type 0 where
  pub most : (conns : List (List ℕ)) → BeginsWith bytes conns → length conns ≤ whole
  pub there : (whole ≡ 0) ⊎ ((conns : List (List ℕ)) × BeginsWith bytes conns × (length conns ≡ whole))
