-- What is measured: tables that were built for a grammar, and tokens that a text may have, as many as it may have bytes.
use Rattle.std.specs.Prelude.{◌-◌, ◌^◌, ◌<◌, ◌≤◌, All, length}
use Rattle.lr_base.specs.declared.limits.TheConstants.{TEXT_BYTES}
use Rattle.grammar_data.specs.declared.token.Token.{Token}
use Rattle.grammar_checks.specs.Building.{IsBuilt}
use Rattle.plain_parse.specs.Parses.{AreTextTokens}
use Rattle.segment_bench.specs.declared.input.Input.{Input}

pub record IsInput (input : Input) : Type 0 where
  pub built : IsBuilt input.sheet.grammar input.built
  pub tokens : AreTextTokens input.built.tables input.tokens.items
  pub small : All (λ (token : Token). token.id < 2 ^ 32 - 2) input.tokens.items
  pub few : length input.tokens.items ≤ TEXT_BYTES
