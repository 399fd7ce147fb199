-- Values and ports go forward, and their parts stand in text order.
use Rattle.std.specs.Prelude.{ℕ, ◌≤◌, ◌<◌, ◌≡◌, List, length}
use Rattle.text.specs.declared.Got.{Got}
use Rattle.text.specs.declared.ReadPort.{ReadPort}
use Rattle.text.specs.declared.ReadLiteral.{ReadLiteral}
use Rattle.text.specs.ExpectLaws.{Kept}
use Rattle.text.specs.Productions.{past_literal, past_port}
use Rattle.text.specs.Laid.{PortLaid, LiteralLaid}

-- ---- values

pub record LiteralFollows (s : List ℕ) (g : Got) (v : ReadLiteral) : Type 0 where
  pub fine : g.bad ≡ 0
  pub some : g.end < v.end
  pub high : v.end ≤ length s
  pub laid : LiteralLaid g.end v.end v.literal

pub record LiteralGood (s : List ℕ) (at : ℕ) (g : Got) (v : ReadLiteral) : Type 0 where
  pub follows : v.bad ≡ 0 → LiteralFollows s g v
  pub kept : Kept s at (past_literal v)

pub record PortFollows (s : List ℕ) (g : Got) (v : ReadPort) : Type 0 where
  pub fine : g.bad ≡ 0
  pub some : g.end < v.end
  pub high : v.end ≤ length s
  pub laid : PortLaid g.end v.end v.port

pub record PortGood (s : List ℕ) (at : ℕ) (g : Got) (v : ReadPort) : Type 0 where
  pub follows : v.bad ≡ 0 → PortFollows s g v
  pub kept : Kept s at (past_port v)
