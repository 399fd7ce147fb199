use Rattle.scan.specs.Others as law
use Rattle.wants.proofs.signs.byte_of.Goals as goal

pub returns-in-LeftBrace : goal.returns-in-LeftBrace
returns-in-LeftBrace c = rw c.in-LeftBrace.is law.left-brace

pub returns-in-RightBrace : goal.returns-in-RightBrace
returns-in-RightBrace c = rw c.in-RightBrace.is law.right-brace

pub returns-in-LeftBracket : goal.returns-in-LeftBracket
returns-in-LeftBracket c = rw c.in-LeftBracket.is law.left-bracket

pub returns-in-RightBracket : goal.returns-in-RightBracket
returns-in-RightBracket c = rw c.in-RightBracket.is law.right-bracket

pub returns-in-LeftParen : goal.returns-in-LeftParen
returns-in-LeftParen c = rw c.in-LeftParen.is law.left-paren

pub returns-in-RightParen : goal.returns-in-RightParen
returns-in-RightParen c = rw c.in-RightParen.is law.right-paren

pub returns-in-Semicolon : goal.returns-in-Semicolon
returns-in-Semicolon c = rw c.in-Semicolon.is law.semicolon

pub returns-in-Equals : goal.returns-in-Equals
returns-in-Equals c = rw c.in-Equals.is law.equals

pub returns-in-Dot : goal.returns-in-Dot
returns-in-Dot c = rw c.in-Dot.is law.dot

pub returns-in-Comma : goal.returns-in-Comma
returns-in-Comma c = rw c.in-Comma.is law.comma

pub returns-in-Minus : goal.returns-in-Minus
returns-in-Minus c = rw c.in-Minus.is law.minus
